-- A walk through the nets below a module: a step past an instance, and the whole.
use Rattle.std.proofs.Common.{ℕ, suc, ◌+◌, ◌<◌, ◌≤◌, ◌≡◌, List, [], ◌∷◌, ◌++◌, length, take, drop, map, reverse, Option, Some, Ok, Err, slice_get, refl, sym, ap, subst, arith, ◌∙◌, length-append, append_assoc, append-nil}
use Rattle.std.proofs.lemmas.List.{take-append-le, take-take, take_all, length-take-le}
use Rattle.dft_base.specs.Lexing.{Text}
use Rattle.dft_netlist.specs.Netlist.{Netlist}
use Rattle.dft_netlist_text.specs.NetlistText.{Grown, add_nets, and_grown}
use Rattle.dft_modules.specs.declared.module.Item.{Item}
use Rattle.dft_modules.specs.Modules.{Module}
use Rattle.dft_hier.specs.declared.flat_nets.Visit.{Visit}
use Rattle.dft_hier.specs.declared.weights.LiveSub.{LiveSub}
use Rattle.dft_base.proofs.ListLemmas.{drop_at, drop_over}
use Rattle.dft_netlist.specs.declared.error.NetlistError.{NetlistError}
use Rattle.dft_verilog.proofs.GrowLemmas.{add_nets-append}
use Rattle.dft_hier.specs.Growing.{IsPrefix}
use Rattle.dft_hier.specs.Flat.{inside}
use Rattle.dft_hier.specs.FlatNets.{total_by, nets_in, named_nets, sub_nets, live_nets, items_at, live_at, GivesLive, IsSubAt, size_in}
use Rattle.dft_hier.specs.NetWalks.{NetStand, at_module, passed, visit_of, gone_on, pending, IsNested, IsNetWalk, visit_size, way_size}
use Rattle.dft_hier.specs.Weights.{Live}
use Rattle.dft_hier.proofs.WalkLemmas.{back-push}

-- ---- nets that are added one list after another

then_nets : (g : Grown) (xs ys : List Text) → ((n : Netlist) → add_nets (xs ++ ys) n ≡ and_grown (add_nets xs n) (add_nets ys)) → and_grown g (add_nets (xs ++ ys)) ≡ and_grown (and_grown g (add_nets xs)) (add_nets ys)
then_nets (Ok n) xs ys same = same n
then_nets (Err why) xs ys same = refl

-- ---- prefixes

nested_less : (count limit more : ℕ) (back : List Visit) → limit ≤ more → IsNested count limit back → IsNested count more back
nested_less count limit more [] less h = tt
nested_less count limit more (v ∷ back) less h = (h.0, (let a = h.1 in omega arith), h.2)

-- a prefix that keeps what it begins with keeps what is pending
pending_same : (ms : List Module) (items : List Live) (p q : Text) (limit : ℕ) (back : List Visit) → take limit p ≡ take limit q → IsNested (length ms) limit back → pending ms items p back ≡ pending ms items q back
pending_same ms items p q limit [] same h = refl
pending_same ms items p q limit (v ∷ back) same h =
    let here : take v.prefix p ≡ take v.prefix q = sym (take-take v.prefix limit p h.1) ∙ ap (take v.prefix) same ∙ take-take v.prefix limit q h.1 in
    ap (λ (prefix : Text). live_nets (nets_in (length ms) ms) ms prefix (items_at ms v.number) (drop v.next (live_at items v.number)) ++ pending ms items p back) here
    ∙ ap (λ (ns : List Text). live_nets (nets_in (length ms) ms) ms (take v.prefix q) (items_at ms v.number) (drop v.next (live_at items v.number)) ++ ns) (pending_same ms items p q v.prefix back here h.2)

pub kept : (p name : Text) (limit : ℕ) → limit ≤ length p → take limit (inside (take limit p) name) ≡ take limit p
kept p name limit less =
    let size = length-take-le limit p less in
    let all : take limit (take limit p ++ name ++ 47 ∷ []) ≡ take limit (take limit p ++ name) = take-append-le limit (take limit p ++ name) (47 ∷ []) (let l = length-append (take limit p) name in omega arith) in
    all ∙ take-append-le limit (take limit p) name (omega arith) ∙ take_all limit (take limit p) (omega arith)

-- ---- a step past an instance

abbrev pub IsInstanceOf : (ms : List Module) → (v : Visit) → (l : LiveSub) → (name : Text) → Module → Type 0
IsInstanceOf ms v l name m = (prefix : Text) → named_nets (nets_in (length ms) ms) prefix (slice_get (items_at ms v.number) l.item) (slice_get ms l.child) ≡ nets_in (length ms) ms (inside prefix name) m

pending_split : (ms : List Module) (items : List Live) (p : Text) (v : Visit) (back : List Visit) (l : LiveSub) (name : Text) (m : Module) → slice_get (live_at items v.number) v.next ≡ Some l → IsInstanceOf ms v l name m → GivesLive ms items l.child m →
    v.prefix ≤ length p → IsNested (length ms) v.prefix back →
    pending ms items p (v ∷ back) ≡ map (λ n. inside (take v.prefix p) name ++ n) m.nets ++ pending ms items (inside (take v.prefix p) name) (visit_of l.child (length (inside (take v.prefix p) name)) ∷ passed v ∷ back)
pending_split ms items p v back l name m at named gives within nested =
    let N : Text → Module → List Text = nets_in (length ms) ms in
    let q : Text = inside (take v.prefix p) name in
    let own : List Text = map (λ n. q ++ n) m.nets in
    let child : List Text = live_nets N ms q (items_at ms l.child) (live_at items l.child) in
    let others : List LiveSub = drop (v.next + 1) (live_at items v.number) in
    let same : take v.prefix q ≡ take v.prefix p = kept p name v.prefix within in
    let rest : List Text = live_nets N ms (take v.prefix p) (items_at ms v.number) others in
    let here : live_nets N ms (take v.prefix p) (items_at ms v.number) (drop v.next (live_at items v.number)) ≡ (own ++ child) ++ rest =
    ap (live_nets N ms (take v.prefix p) (items_at ms v.number)) (drop_at (live_at items v.number) v.next l at) ∙ ap (λ (ns : List Text). ns ++ rest) (named (take v.prefix p) ∙ gives q) in
    let below : pending ms items p back ≡ pending ms items q back = pending_same ms items p q v.prefix back (sym same) nested in
    let front : live_nets N ms (take (length q) q) (items_at ms l.child) (live_at items l.child) ≡ child = ap (λ (x : Text). live_nets N ms x (items_at ms l.child) (live_at items l.child)) (take_all (length q) q (omega arith)) in
    let back_rest : live_nets N ms (take v.prefix q) (items_at ms v.number) others ≡ rest = ap (λ (x : Text). live_nets N ms x (items_at ms v.number) others) same in
    ap (λ (ns : List Text). ns ++ pending ms items p back) here
    ∙ append_assoc (own ++ child) rest (pending ms items p back)
    ∙ append_assoc own child (rest ++ pending ms items p back)
    ∙ ap (λ (ns : List Text). own ++ (child ++ (rest ++ ns))) below
    ∙ ap (λ (ns : List Text). own ++ (child ++ (ns ++ pending ms items q back))) (sym back_rest)
    ∙ ap (λ (ns : List Text). own ++ (ns ++ (live_nets N ms (take v.prefix q) (items_at ms v.number) others ++ pending ms items q back))) (sym front)

the_back : (ms : List Module) (items : List Live) (whole : Grown) (s : NetStand) (v : Visit) (n : Netlist) → IsNetWalk ms items whole (record s { way = s.way ++ v ∷ [] }) n → IsNested (length ms) (length s.prefix) (v ∷ reverse s.way) × (add_nets (pending ms items s.prefix (v ∷ reverse s.way)) n ≡ whole)
the_back ms items whole s v n h =
    (subst (IsNested (length ms) (length s.prefix)) (back-push s.way v) h.nested, sym (ap (λ (back : List Visit). add_nets (pending ms items s.prefix back) n) (back-push s.way v)) ∙ h.rest)

-- the nets of the instance's module are what comes first
pub comes_first : (ms : List Module) (items : List Live) (whole : Grown) (s : NetStand) (v : Visit) (l : LiveSub) (name : Text) (m : Module) (n : Netlist) → slice_get (live_at items v.number) v.next ≡ Some l → IsInstanceOf ms v l name m → GivesLive ms items l.child m →
    IsNetWalk ms items whole (record s { way = s.way ++ v ∷ [] }) n →
    and_grown (add_nets (map (λ x. inside (take v.prefix s.prefix) name ++ x) m.nets) n) (add_nets (pending ms items (gone_on s v name l.child).prefix (reverse (gone_on s v name l.child).way))) ≡ whole
comes_first ms items whole s v l name m n at named gives h =
    let b = the_back ms items whole s v n h in
    let q : Text = inside (take v.prefix s.prefix) name in
    let own : List Text = map (λ x. q ++ x) m.nets in
    let c : Visit = visit_of l.child (length q) in
    let back : reverse ((s.way ++ passed v ∷ []) ++ c ∷ []) ≡ c ∷ passed v ∷ reverse s.way = back-push (s.way ++ passed v ∷ []) c ∙ ap (λ (xs : List Visit). c ∷ xs) (back-push s.way (passed v)) in
    ap (λ (xs : List Visit). and_grown (add_nets own n) (add_nets (pending ms items q xs))) back
    ∙ sym (add_nets-append own (pending ms items q (c ∷ passed v ∷ reverse s.way)) n)
    ∙ sym (ap (λ (ns : List Text). add_nets ns n) (pending_split ms items s.prefix v (reverse s.way) l name m at named gives b.0.1 b.0.2)) ∙ b.1

pub walks_on : (ms : List Module) (items : List Live) (whole : Grown) (s : NetStand) (v : Visit) (l : LiveSub) (name : Text) (m : Module) (n new : Netlist) → slice_get (live_at items v.number) v.next ≡ Some l → IsInstanceOf ms v l name m → GivesLive ms items l.child m → l.child < length ms →
    IsPrefix (gone_on s v name l.child).prefix → add_nets (map (λ x. inside (take v.prefix s.prefix) name ++ x) m.nets) n ≡ Ok new → IsNetWalk ms items whole (record s { way = s.way ++ v ∷ [] }) n → IsNetWalk ms items whole (gone_on s v name l.child) new
walks_on ms items whole s v l name m n new at named gives live printed added h =
    let b = the_back ms items whole s v n h in
    let q : Text = inside (take v.prefix s.prefix) name in
    let c : Visit = visit_of l.child (length q) in
    let back : reverse ((s.way ++ passed v ∷ []) ++ c ∷ []) ≡ c ∷ passed v ∷ reverse s.way = back-push (s.way ++ passed v ∷ []) c ∙ ap (λ (xs : List Visit). c ∷ xs) (back-push s.way (passed v)) in
    let size = length-append (take v.prefix s.prefix) name in
    let whole_size = length-append (take v.prefix s.prefix ++ name) (47 ∷ []) in
    let cut = length-take-le v.prefix s.prefix b.0.1 in
    record {
      nested = subst (IsNested (length ms) (length q)) (sym back) (live, (omega arith), (b.0.0, (omega arith), b.0.2));
      printed = printed;
      rest = sym (ap (λ (g : Grown). and_grown g (add_nets (pending ms items (gone_on s v name l.child).prefix (reverse (gone_on s v name l.child).way)))) added) ∙ comes_first ms items whole s v l name m n at named gives h;
    }

pub stops : (ms : List Module) (items : List Live) (whole : Grown) (s : NetStand) (v : Visit) (l : LiveSub) (name : Text) (m : Module) (n : Netlist) (why : NetlistError) → slice_get (live_at items v.number) v.next ≡ Some l → IsInstanceOf ms v l name m → GivesLive ms items l.child m →
    add_nets (map (λ x. inside (take v.prefix s.prefix) name ++ x) m.nets) n ≡ Err why → IsNetWalk ms items whole (record s { way = s.way ++ v ∷ [] }) n → whole ≡ Err why
stops ms items whole s v l name m n why at named gives refused h =
    sym (sym (ap (λ (g : Grown). and_grown g (add_nets (pending ms items (gone_on s v name l.child).prefix (reverse (gone_on s v name l.child).way)))) refused) ∙ comes_first ms items whole s v l name m n at named gives h)

-- a visit that has no instance left is over
pub walks_back : (ms : List Module) (items : List Live) (whole : Grown) (s : NetStand) (v : Visit) (n : Netlist) → length (live_at items v.number) ≤ v.next → IsNetWalk ms items whole (record s { way = s.way ++ v ∷ [] }) n → IsNetWalk ms items whole s n
walks_back ms items whole s v n past h =
    let b = the_back ms items whole s v n h in
    record {
      nested = nested_less (length ms) v.prefix (length s.prefix) (reverse s.way) b.0.1 b.0.2;
      printed = h.printed;
      rest = sym (ap (λ (xs : List LiveSub). add_nets (live_nets (nets_in (length ms) ms) ms (take v.prefix s.prefix) (items_at ms v.number) xs ++ pending ms items s.prefix (reverse s.way)) n) (drop_over (live_at items v.number) v.next past)) ∙ b.1;
    }

pub walk_ends : (ms : List Module) (items : List Live) (whole : Grown) (s : NetStand) (n : Netlist) → s.way ≡ [] → IsNetWalk ms items whole s n → whole ≡ Ok n
walk_ends ms items whole s n none h = sym h.rest ∙ ap (λ (way : List Visit). add_nets (pending ms items s.prefix (reverse way)) n) none

pub walk_begins : (ms : List Module) (items : List Live) (top : ℕ) (n : Netlist) → top < length ms → IsNetWalk ms items (add_nets (live_nets (nets_in (length ms) ms) ms [] (items_at ms top) (live_at items top)) n) (at_module top) n
walk_begins ms items top n live = record {
  nested = (live, (omega arith), tt);
  printed = λ k d less. absurd (omega (arith, less));
  rest = ap (λ (ns : List Text). add_nets ns n) (append-nil (live_nets (nets_in (length ms) ms) ms [] (items_at ms top) (live_at items top)));
}

pub top_visit : (ms : List Module) (items : List Live) (whole : Grown) (s : NetStand) (v : Visit) (n : Netlist) → IsNetWalk ms items whole (record s { way = s.way ++ v ∷ [] }) n → v.number < length ms
top_visit ms items whole s v n h = (the_back ms items whole s v n h).0.0

-- ---- the name and the module of an instance

pub instance_of : (ms : List Module) (items : List Live) (v : Visit) (l : LiveSub) → (is : IsSubAt ms v.number l) → IsInstanceOf ms v l is.sub.name is.below
instance_of ms items v l is prefix =
    ap (λ (o : Option Item). named_nets (nets_in (length ms) ms) prefix o (slice_get ms l.child)) is.item_at ∙ ap (sub_nets (nets_in (length ms) ms) prefix is.sub) is.below_at

-- ---- how many steps are left

pub sum_push : {X : Type 0} (f : X → ℕ) (xs : List X) (x : X) → total_by f (xs ++ x ∷ []) ≡ total_by f xs + f x
sum_push f [] x = omega arith
sum_push f (y ∷ xs) x = let r = sum_push f xs x in omega arith

pub steps_fewer : (ms : List Module) (items : List Live) (s : NetStand) (v : Visit) (l : LiveSub) (name : Text) → slice_get (live_at items v.number) v.next ≡ Some l → size_in (length ms) items l.child ≡ size_in (suc (length ms)) items l.child →
    way_size ms items (gone_on s v name l.child).way < way_size ms items (s.way ++ v ∷ [])
steps_fewer ms items s v l name at deep =
    let c : Visit = visit_of l.child (length (inside (take v.prefix s.prefix) name)) in
    let a = sum_push (visit_size ms items) (s.way ++ passed v ∷ []) c in
    let b = sum_push (visit_size ms items) s.way (passed v) in
    let d = sum_push (visit_size ms items) s.way v in
    let f : LiveSub → ℕ = λ (x : LiveSub). suc (size_in (length ms) items x.child) in
    let cut : total_by f (drop v.next (live_at items v.number)) ≡ f l + total_by f (drop (v.next + 1) (live_at items v.number)) = ap (total_by f) (drop_at (live_at items v.number) v.next l at) in
    omega arith

pub steps_back : (ms : List Module) (items : List Live) (way : List Visit) (v : Visit) → way_size ms items way < way_size ms items (way ++ v ∷ [])
steps_back ms items way v = let d = sum_push (visit_size ms items) way v in omega arith
