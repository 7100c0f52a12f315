-- Into an instance with nets in it.
use Rattle.std.proofs.Common.{◌≡◌, ℕ, zero, suc, ◌<◌, ◌≤◌, List, [], ◌∷◌, ◌++◌, length, take, get_or, map, Some, None, Result, Ok, Err, slice_get, OnOk, sym, ap, subst, ◌∙◌, arith}
use Rattle.std.specs.Result.{MatchResult}
use Rattle.std.proofs.lemmas.Option.{slice_get_within, slice_get-get_or}
use Rattle.dft_base.specs.Lexing.{Text}
use Rattle.dft_netlist.specs.Netlist.{Netlist}
use Rattle.dft_netlist.specs.declared.error.NetlistError.{NetlistError}
use Rattle.dft_netlist.specs.declared.error.NetlistError.TheVariants as error
use Rattle.dft_netlist_text.specs.NetlistText.{Grown, add_nets}
use Rattle.dft_modules.specs.declared.module.SubInstance.{SubInstance}
use Rattle.dft_modules.specs.declared.module.Item.{Item}
use Rattle.dft_modules.specs.declared.module.Item.TheVariants as item
use Rattle.dft_modules.specs.Modules.{Module}
use Rattle.dft_hier.specs.declared.flat_nets.Visit.{Visit}
use Rattle.dft_hier.specs.declared.weights.LiveSub.{LiveSub}
use Rattle.dft_hier.specs.Hierarchy.{sub_of}
use Rattle.dft_hier.specs.Flat.{inside}
use Rattle.dft_hier.specs.FlatNets.{items_in, items_at, live_at, IsSubAt, IsNetLaid}
use Rattle.dft_hier.specs.Growing.{Grows, IsPrefix, IsRefusal}
use Rattle.dft_hier.specs.NetWalks.{NetStand, gone_on, IsNetWalk, way_size}
use Rattle.std.proofs.lemmas.List.{get_or_read}
use Rattle.dft_hier.specs.Weights.{Live, no_live}
use Rattle.dft_hier.proofs.NetWalkLemmas.{instance_of, walks_on, stops, steps_fewer}

-- the items of a module by its number
pub items_are : (ms : List Module) (number : ℕ) (m : Module) (items : List Item) → number < length ms → m ≡ get_or ms number m → items ≡ m.items → items_at ms number ≡ items
items_are ms number m items less is are = ap items_in (slice_get-get_or ms number m less ∙ ap (λ (x : Module). Some x) (sym is)) ∙ sym are

pub item_there : (ms : List Module) (number : ℕ) (l : LiveSub) (m : Module) (items : List Item) → number < length ms → m ≡ get_or ms number m → items ≡ m.items → IsSubAt ms number l → l.item < length items
item_there ms number l m items less is are at = slice_get_within items l.item (item.Sub at.sub) (ap (λ (xs : List Item). slice_get xs l.item) (sym (items_are ms number m items less is are)) ∙ at.item_at)

pub child_there : (ms : List Module) (number : ℕ) (l : LiveSub) → IsSubAt ms number l → l.child < length ms
child_there ms number l at = slice_get_within ms l.child at.below at.below_at

the_item : (ms : List Module) (number : ℕ) (l : LiveSub) (m : Module) (items : List Item) (i : Item) → number < length ms → m ≡ get_or ms number m → items ≡ m.items → i ≡ get_or items l.item i → (at : IsSubAt ms number l) → i ≡ item.Sub at.sub
the_item ms number l m items i less is are read at =
    let within = item_there ms number l m items less is are at in
    let a : Some i ≡ Some (item.Sub at.sub) = ap (λ (x : Item). Some x) read ∙ sym (slice_get-get_or items l.item i within) ∙ ap (λ (xs : List Item). slice_get xs l.item) (sym (items_are ms number m items less is are)) ∙ at.item_at in
    cc

pub sub_is : (ms : List Module) (number : ℕ) (l : LiveSub) (m : Module) (items : List Item) (i : Item) (s : SubInstance) → number < length ms → m ≡ get_or ms number m → items ≡ m.items → i ≡ get_or items l.item i → (at : IsSubAt ms number l) → sub_of i ≡ Some s → s ≡ at.sub
sub_is ms number l m items i s less is are read at sub = let a : Some s ≡ Some at.sub = sym sub ∙ ap sub_of (the_item ms number l m items i less is are read at) in cc

pub none_there : (ms : List Module) (number : ℕ) (l : LiveSub) (m : Module) (items : List Item) (i : Item) → number < length ms → m ≡ get_or ms number m → items ≡ m.items → i ≡ get_or items l.item i → (at : IsSubAt ms number l) → sub_of i ≡ None → ⊥
none_there ms number l m items i less is are read at none = let a : None ≡ Some at.sub = sym none ∙ ap sub_of (the_item ms number l m items i less is are read at) in cc

-- a refusal of what comes first is one of the whole
refused : (own whole : Grown) (e : NetlistError) → ((why : NetlistError) → own ≡ Err why → whole ≡ Err why) → IsRefusal own e → IsRefusal whole e
refused own whole (error.MultipleDrivers name) more is = more (error.MultipleDrivers name) is
refused own whole (error.Loop name) more is = more (error.Loop name) is
refused own whole (error.DuplicateName name) more is = more (error.DuplicateName name) is
refused own whole (error.TooMany what limit) more is = more (error.TooMany what limit) is
refused own whole (error.Memory failed) more is = tt

pub outcome : {X : Type 0} (own whole : Grown) (new : Netlist) (P : Type 0) (r : Result X NetlistError) → (own ≡ Ok new → P) → ((why : NetlistError) → own ≡ Err why → whole ≡ Err why) → Grows own r new → MatchResult r (λ _. P) (IsRefusal whole)
outcome own whole new P (Ok x) good bad is = good is
outcome own whole new P (Err e) good bad is = refused own whole e bad is

-- the walk over nets goes on into the module of an instance, or is refused as the whole design is
pub entered : {X : Type 0} (ms : List Module) (items : List Live) (whole : Grown) (s : NetStand) (v : Visit) (l : LiveSub) (name : Text) (m : Module) (names : List Text) (prefix : Text) (n new : Netlist) (t : NetStand) (r : Result X NetlistError) →
    IsNetLaid ms items → slice_get (live_at items v.number) v.next ≡ Some l → (at : IsSubAt ms v.number l) → name ≡ at.sub.name → m ≡ get_or ms l.child m → names ≡ m.nets → t ≡ gone_on s v name l.child → prefix ≡ t.prefix → IsPrefix t.prefix →
    Grows (add_nets (map (λ x. prefix ++ x) names) n) r new → IsNetWalk ms items whole (record s { way = s.way ++ v ∷ [] }) n → MatchResult r (λ _. IsNetWalk ms items whole t new) (IsRefusal whole)
entered ms items whole s v l name m names prefix n new t r laid next at named read are stand kept printed grows walk =
    let q : Text = inside (take v.prefix s.prefix) name in
    let live = child_there ms v.number l at in
    let same : Some m ≡ Some at.below = ap (λ (x : Module). Some x) read ∙ sym (slice_get-get_or ms l.child m live) ∙ at.below_at in
    let below : m ≡ at.below = cc in
    let nets : names ≡ at.below.nets = are ∙ ap (λ (x : Module). x.nets) below in
    let pre : prefix ≡ q = kept ∙ ap (λ (x : NetStand). x.prefix) stand in
    let own : add_nets (map (λ x. prefix ++ x) names) n ≡ add_nets (map (λ x. inside (take v.prefix s.prefix) at.sub.name ++ x) at.below.nets) n =
    ap (λ (p : Text). add_nets (map (λ x. p ++ x) names) n) (pre ∙ ap (inside (take v.prefix s.prefix)) named) ∙ ap (λ (ns : List Text). add_nets (map (λ x. inside (take v.prefix s.prefix) at.sub.name ++ x) ns) n) nets in
    let there : t ≡ gone_on s v at.sub.name l.child = stand ∙ ap (λ (x : Text). gone_on s v x l.child) named in
    let gives = laid.gives l.child at.below at.below_at in
    let is = instance_of ms items v l at in
    outcome (add_nets (map (λ x. prefix ++ x) names) n) whole new (IsNetWalk ms items whole t new) r
    (λ added. subst (λ (x : NetStand). IsNetWalk ms items whole x new) (sym there) (walks_on ms items whole s v l at.sub.name at.below n new next is gives live (subst (λ (x : NetStand). IsPrefix x.prefix) there printed) (sym own ∙ added) walk))
    (λ why added. stops ms items whole s v l at.sub.name at.below n why next is gives (sym own ∙ added) walk) grows

pub fewer : {X : Type 0} (ms : List Module) (items : List Live) (s : NetStand) (v : Visit) (l : LiveSub) (name : Text) (t : NetStand) (r : Result X NetlistError) → IsNetLaid ms items → slice_get (live_at items v.number) v.next ≡ Some l → IsSubAt ms v.number l → t ≡ gone_on s v name l.child → OnOk r (way_size ms items t.way < way_size ms items (s.way ++ v ∷ []))
fewer ms items s v l name t (Ok x) laid next at stand =
    let less = steps_fewer ms items s v l name next (laid.steps l.child (child_there ms v.number l at)) in
    subst (λ (y : NetStand). way_size ms items y.way < way_size ms items (s.way ++ v ∷ [])) (sym stand) less
fewer ms items s v l name t (Err e) laid next at stand = tt

-- ---- a step of the walk

-- the live instances of a module by its number
pub live_are : (items : List Live) (number : ℕ) (x : Live) (live : List LiveSub) → number < length items → x ≡ get_or items number x → live ≡ x.with_nets → live_at items number ≡ live
live_are items number x live less is are = ap (λ (y : Live). y.with_nets) (sym (get_or_read items number x less is no_live)) ∙ sym are

pub next_at : (items : List Live) (number next : ℕ) (x : Live) (live : List LiveSub) (l : LiveSub) → number < length items → x ≡ get_or items number x → live ≡ x.with_nets → slice_get live next ≡ Some l → slice_get (live_at items number) next ≡ Some l
next_at items number next x live l less is are at = ap (λ (ls : List LiveSub). slice_get ls next) (live_are items number x live less is are) ∙ at

past_none : (xs : List LiveSub) (k : ℕ) → slice_get xs k ≡ None → length xs ≤ k
past_none [] k e = omega arith
past_none (x ∷ xs) zero e = absurd (let f : ⊥ = cc in f)
past_none (x ∷ xs) (suc k) e = let r = past_none xs k e in omega arith

pub over_at : (items : List Live) (number next : ℕ) (x : Live) (live : List LiveSub) → number < length items → x ≡ get_or items number x → live ≡ x.with_nets → slice_get live next ≡ None → length (live_at items number) ≤ next
over_at items number next x live less is are at = past_none (live_at items number) next (ap (λ (ls : List LiveSub). slice_get ls next) (live_are items number x live less is are) ∙ at)
