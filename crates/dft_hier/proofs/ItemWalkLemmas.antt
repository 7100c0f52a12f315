-- A walk through the items below a module: past an item, into an instance, and the whole.
use Rattle.std.proofs.Common.{ℕ, suc, ◌+◌, ◌<◌, ◌≤◌, ◌≡◌, List, [], ◌∷◌, ◌++◌, length, take, drop, get_or, map, reverse, Option, Some, Ok, Err, slice_get, refl, sym, ap, subst, arith, ◌∙◌, length-append, append_assoc, append-nil}
use Rattle.std.proofs.lemmas.List.{take-take, take_all, length-take-le}
use Rattle.std.proofs.lemmas.List.Elements.{All-get_or}
use Rattle.std.proofs.lemmas.Option.{slice_get_within, get_or_from_slice_get}
use Rattle.dft_base.specs.Lexing.{Text}
use Rattle.dft_base.proofs.ListLemmas.{drop_at, drop_over}
use Rattle.dft_cells.specs.declared.cell.Cell.{Cell}
use Rattle.dft_netlist.specs.declared.limits.TheConstants.{MAX_NETS}
use Rattle.dft_netlist.specs.declared.error.NetlistError.{NetlistError}
use Rattle.dft_netlist.specs.declared.instance.Instance.{Instance}
use Rattle.dft_netlist.specs.declared.instance.Join.{Join}
use Rattle.dft_netlist.specs.Netlist.{Netlist}
use Rattle.dft_netlist_text.specs.NetlistText.{Grown, and_grown}
use Rattle.dft_modules.specs.declared.module.Item.{Item}
use Rattle.dft_modules.specs.Modules.{Module}
use Rattle.dft_modules.specs.Sound.{IsItem}
use Rattle.dft_hier.specs.declared.flat_items.Visit.{Visit}
use Rattle.dft_hier.specs.declared.weights.Weight.{Weight}
use Rattle.dft_hier.specs.declared.weights.LiveSub.{LiveSub}
use Rattle.dft_hier.specs.declared.weights.LiveItem.{LiveItem}
use Rattle.dft_hier.specs.declared.weights.LiveItem.TheVariants.{Own, Sub}
use Rattle.dft_hier.specs.Flat.{Parts, Giving, no_parts, and_parts, sub_parts, parts_within, inside, connection_joins}
use Rattle.dft_hier.specs.FlatNets.{total_by, items_in, items_at, IsSubAt}
use Rattle.dft_hier.specs.FlatItems.{own_parts, named_parts, live_parts, nets_of, live_items_at, net_total, step_of, item_size_in}
use Rattle.dft_hier.specs.Growing.{IsPrefix}
use Rattle.dft_hier.specs.ItemWalks.{ItemStand, at_top, passed_by, passed_own, visit_at, and_visit, gone_into, adds, pending_parts, IsSpan, AreSpans, IsItemWalk, IsItemIn, item_visit_size, item_way_size}
use Rattle.dft_hier.specs.ItemsLaid.{AreItemsLaid}
use Rattle.dft_hier.specs.Moving.{with_joins}
use Rattle.dft_hier.specs.Weights.{Live, no_weight}
use Rattle.dft_hier.proofs.FlattenLemmas.{sound_at}
use Rattle.dft_hier.proofs.ItemLemmas.{adds_append, adds_keep}
use Rattle.dft_hier.proofs.NetWalkLemmas.{kept, sum_push}
use Rattle.dft_hier.proofs.WalkLemmas.{back-push}

parts_assoc : (a b c : Parts) → and_parts (and_parts a b) c ≡ and_parts a (and_parts b c)
parts_assoc a b c =
    ap (λ (ns : List Text). record { nets = ns; joins = (a.joins ++ b.joins) ++ c.joins; instances = (a.instances ++ b.instances) ++ c.instances }) (append_assoc a.nets b.nets c.nets)
    ∙ ap (λ (js : List Join). record { nets = a.nets ++ (b.nets ++ c.nets); joins = js; instances = (a.instances ++ b.instances) ++ c.instances }) (append_assoc a.joins b.joins c.joins)
    ∙ ap (λ (is : List Instance). record { nets = a.nets ++ (b.nets ++ c.nets); joins = a.joins ++ (b.joins ++ c.joins); instances = is }) (append_assoc a.instances b.instances c.instances)

parts_nil : (a : Parts) → and_parts a no_parts ≡ a
parts_nil a =
    ap (λ (ns : List Text). record { nets = ns; joins = a.joins ++ []; instances = a.instances ++ [] }) (append-nil a.nets)
    ∙ ap (λ (js : List Join). record { nets = a.nets; joins = js; instances = a.instances ++ [] }) (append-nil a.joins)
    ∙ ap (λ (is : List Instance). record { nets = a.nets; joins = a.joins; instances = is }) (append-nil a.instances)

-- ---- spans and prefixes

spans_less : (ms : List Module) (items : List Live) (weights : List Weight) (nets limit more : ℕ) (back : List Visit) → limit ≤ more → AreSpans ms items weights nets limit back → AreSpans ms items weights nets more back
spans_less ms items weights nets limit more [] less h = tt
spans_less ms items weights nets limit more (v ∷ back) less h = (h.0, (let a = h.1 in omega arith), h.2)

pending_same : (ms : List Module) (items : List Live) (weights : List Weight) (nets : ℕ) (p q : Text) (limit : ℕ) (back : List Visit) → take limit p ≡ take limit q → AreSpans ms items weights nets limit back → pending_parts ms items weights p back ≡ pending_parts ms items weights q back
pending_same ms items weights nets p q limit [] same h = refl
pending_same ms items weights nets p q limit (v ∷ back) same h =
    let here : take v.prefix p ≡ take v.prefix q = sym (take-take v.prefix limit p h.1) ∙ ap (take v.prefix) same ∙ take-take v.prefix limit q h.1 in
    ap (λ (prefix : Text). and_parts (live_parts (parts_within (length ms) ms) ms weights prefix v.first v.next (items_at ms v.number) (drop v.item (live_items_at items v.number))) (pending_parts ms items weights p back)) here
    ∙ ap (λ (x : Parts). and_parts (live_parts (parts_within (length ms) ms) ms weights (take v.prefix q) v.first v.next (items_at ms v.number) (drop v.item (live_items_at items v.number))) x) (pending_same ms items weights nets p q v.prefix back here h.2)

module _ (ms : List Module) (items : List Live) (weights : List Weight) (library : List Cell) where
  N : Giving
  N = parts_within (length ms) ms

  the_back : (whole : Grown) (s : ItemStand) (v : Visit) (n : Netlist) → IsItemWalk ms items weights library whole (and_visit s v) n → AreSpans ms items weights (length n.nets) (length s.prefix) (v ∷ reverse s.way) × (adds (pending_parts ms items weights s.prefix (v ∷ reverse s.way)) n ≡ whole)
  the_back whole s v n h =
      (subst (AreSpans ms items weights (length n.nets) (length s.prefix)) (back-push s.way v) h.spans, sym (ap (λ (back : List Visit). adds (pending_parts ms items weights s.prefix back) n) (back-push s.way v)) ∙ h.rest)

  -- a visit that has no item left is over
  pub items_back : (whole : Grown) (s : ItemStand) (v : Visit) (n : Netlist) → length (live_items_at items v.number) ≤ v.item → IsItemWalk ms items weights library whole (and_visit s v) n → IsItemWalk ms items weights library whole s n
  items_back whole s v n past h =
      let b = the_back whole s v n h in
      record {
        spans = spans_less ms items weights (length n.nets) v.prefix (length s.prefix) (reverse s.way) b.0.1 b.0.2;
        printed = h.printed;
        few = h.few;
        over = h.over;
        rest = sym (ap (λ (ls : List LiveItem). adds (and_parts (live_parts (parts_within (length ms) ms) ms weights (take v.prefix s.prefix) v.first v.next (items_at ms v.number) ls) (pending_parts ms items weights s.prefix (reverse s.way))) n) (drop_over (live_items_at items v.number) v.item past)) ∙ b.1;
      }

  pub items_end : (whole : Grown) (s : ItemStand) (n : Netlist) → s.way ≡ [] → IsItemWalk ms items weights library whole s n → whole ≡ Ok n
  items_end whole s n none h =
      sym h.rest ∙ ap (λ (way : List Visit). adds (pending_parts ms items weights s.prefix (reverse way)) n) none ∙ ap (λ (js : List Join). Ok (record n { joins = js })) (append-nil n.joins)

  pub top_prefix : (whole : Grown) (s : ItemStand) (v : Visit) (n : Netlist) → IsItemWalk ms items weights library whole (and_visit s v) n → v.prefix ≤ length s.prefix
  top_prefix whole s v n h = (the_back whole s v n h).0.1

  pub top_visit : (whole : Grown) (s : ItemStand) (v : Visit) (n : Netlist) → IsItemWalk ms items weights library whole (and_visit s v) n → IsSpan ms items weights (length n.nets) v
  top_visit whole s v n h = (the_back whole s v n h).0.0

  -- ---- past an item of a module's own

  pub own_fits : (whole : Grown) (s : ItemStand) (v : Visit) (n : Netlist) (i : Item) (place : ℕ) → AreItemsLaid library ms items weights → slice_get (items_at ms v.number) place ≡ Some i → IsItemWalk ms items weights library whole (and_visit s v) n → IsItemIn n v.first i
  own_fits whole s v n i place laid at h =
      let span = top_visit whole s v n h in
      let m = span.m in
      let there : slice_get m.items place ≡ Some i = ap (λ (o : Option Module). slice_get (items_in o) place) (sym span.at) ∙ at in
      let P : Item → Type 0 = λ (x : Item). IsItem library (length m.nets) x in
      let sound : IsItem library (length m.nets) i = subst P (get_or_from_slice_get m.items place i i there) (All-get_or P m.items place i (slice_get_within m.items place i there) (sound_at library ms v.number m laid.sound span.at).items) in
      record { count = length m.nets; sound = subst (λ (l : List Cell). IsItem l (length m.nets) i) (sym h.over) sound; within = span.own; few = h.few }

  own_first : (whole : Grown) (s : ItemStand) (v : Visit) (n : Netlist) (i : Item) (place : ℕ) → slice_get (live_items_at items v.number) v.item ≡ Some (Own place) → slice_get (items_at ms v.number) place ≡ Some i → IsItemWalk ms items weights library whole (and_visit s v) n →
      and_grown (adds (own_parts (take v.prefix s.prefix) v.first (Some i)) n) (adds (pending_parts ms items weights s.prefix (passed_own v ∷ reverse s.way))) ≡ whole
  own_first whole s v n i place at there h =
      let b = the_back whole s v n h in
      let p : Text = take v.prefix s.prefix in
      let own : Parts = own_parts p v.first (Some i) in
      let rest : Parts = live_parts (parts_within (length ms) ms) ms weights p v.first v.next (items_at ms v.number) (drop (v.item + 1) (live_items_at items v.number)) in
      let back : Parts = pending_parts ms items weights s.prefix (reverse s.way) in
      let cut : live_parts (parts_within (length ms) ms) ms weights p v.first v.next (items_at ms v.number) (drop v.item (live_items_at items v.number)) ≡ and_parts own rest =
      ap (live_parts (parts_within (length ms) ms) ms weights p v.first v.next (items_at ms v.number)) (drop_at (live_items_at items v.number) v.item (Own place) at)
      ∙ ap (λ (o : Option Item). and_parts (own_parts p v.first o) rest) there in
      sym (adds_append own (and_parts rest back) n) ∙ ap (λ (x : Parts). adds x n) (sym (parts_assoc own rest back)) ∙ ap (λ (x : Parts). adds (and_parts x back) n) (sym cut) ∙ b.1

  pub own_passed : (whole : Grown) (s : ItemStand) (v : Visit) (n new : Netlist) (i : Item) (place : ℕ) → slice_get (live_items_at items v.number) v.item ≡ Some (Own place) → slice_get (items_at ms v.number) place ≡ Some i →
      adds (own_parts (take v.prefix s.prefix) v.first (Some i)) n ≡ Ok new → IsItemWalk ms items weights library whole (and_visit s v) n → IsItemWalk ms items weights library whole (and_visit s (passed_own v)) new
  own_passed whole s v n new i place at there added h =
      let b = the_back whole s v n h in
      let own : Parts = own_parts (take v.prefix s.prefix) v.first (Some i) in
      let keeps = adds_keep own.instances (with_joins n own.joins) new added in
      let size : length new.nets ≡ length n.nets = ap (λ (xs : List Text). length xs) keeps.0 in
      let span = b.0.0 in
      let cut = ap (λ (ls : List LiveItem). total_by (nets_of weights) ls) (drop_at (live_items_at items v.number) v.item (Own place) at) in
      let span_rest = span.rest in
      let spans : AreSpans ms items weights (length n.nets) (length s.prefix) (passed_own v ∷ reverse s.way) = (record { m = span.m; at = span.at; own = span.own; rest = omega arith }, b.0.1, b.0.2) in
      record {
        spans = subst (λ (c : ℕ). AreSpans ms items weights c (length s.prefix) (reverse (s.way ++ passed_own v ∷ []))) (sym size) (subst (AreSpans ms items weights (length n.nets) (length s.prefix)) (sym (back-push s.way (passed_own v))) spans);
        printed = h.printed;
        few = (let f = h.few in omega arith);
        over = keeps.1 ∙ h.over;
        rest = ap (λ (back : List Visit). adds (pending_parts ms items weights s.prefix back) new) (back-push s.way (passed_own v))
            ∙ sym (ap (λ (g : Grown). and_grown g (adds (pending_parts ms items weights s.prefix (passed_own v ∷ reverse s.way)))) added) ∙ own_first whole s v n i place at there h;
      }

  pub own_stops : (whole : Grown) (s : ItemStand) (v : Visit) (n : Netlist) (i : Item) (place : ℕ) (why : NetlistError) → slice_get (live_items_at items v.number) v.item ≡ Some (Own place) → slice_get (items_at ms v.number) place ≡ Some i →
      adds (own_parts (take v.prefix s.prefix) v.first (Some i)) n ≡ Err why → IsItemWalk ms items weights library whole (and_visit s v) n → whole ≡ Err why
  own_stops whole s v n i place why at there refused h =
      sym (sym (ap (λ (g : Grown). and_grown g (adds (pending_parts ms items weights s.prefix (passed_own v ∷ reverse s.way)))) refused) ∙ own_first whole s v n i place at there h)

  -- ---- into an instance

  -- the nets of an instance's module and all below it are among those of the netlist
  pub sub_total : (whole : Grown) (s : ItemStand) (v : Visit) (n : Netlist) (l : LiveSub) → (is : IsSubAt ms v.number l) → AreItemsLaid library ms items weights → slice_get (live_items_at items v.number) v.item ≡ Some (Sub l) → IsItemWalk ms items weights library whole (and_visit s v) n →
      (net_total ms is.below ≡ (get_or weights l.child no_weight).nets) × (v.next + net_total ms is.below ≤ length n.nets)
  sub_total whole s v n l is laid at h =
      let span = top_visit whole s v n h in
      let cut = ap (λ (ls : List LiveItem). total_by (nets_of weights) ls) (drop_at (live_items_at items v.number) v.item (Sub l) at) in
      let rest = span.rest in
      let few = h.few in
      let e = laid.exact l.child is.below is.below_at (omega arith) in
      (e, omega arith)

  -- what the instance gives, and the rest, is what is pending
  sub_pending : (whole : Grown) (s : ItemStand) (v : Visit) (n : Netlist) (l : LiveSub) → (is : IsSubAt ms v.number l) → AreItemsLaid library ms items weights → slice_get (live_items_at items v.number) v.item ≡ Some (Sub l) → IsItemWalk ms items weights library whole (and_visit s v) n →
      adds (pending_parts ms items weights s.prefix (v ∷ reverse s.way)) n ≡
      and_grown (adds (record { nets = []; joins = connection_joins v.first v.next is.sub.connections is.below.ports; instances = [] }) n)
      (adds (pending_parts ms items weights (inside (take v.prefix s.prefix) is.sub.name) (visit_at l.child v.next (length is.below.nets) (length (inside (take v.prefix s.prefix) is.sub.name)) ∷ passed_by v (get_or weights l.child no_weight).nets ∷ reverse s.way)))
  sub_pending whole s v n l is laid at h =
      let b = the_back whole s v n h in
      let p : Text = take v.prefix s.prefix in
      let q : Text = inside p is.sub.name in
      let m = is.below in
      let below = (get_or weights l.child no_weight).nets in
      let conn : Parts = record { nets = []; joins = connection_joins v.first v.next is.sub.connections m.ports; instances = [] } in
      let own : Parts = record { nets = map (λ name. q ++ name) m.nets; joins = []; instances = [] } in
      let child : Parts = live_parts (parts_within (length ms) ms) ms weights q v.next (v.next + length m.nets) (items_at ms l.child) (live_items_at items l.child) in
      let others : List LiveItem = drop (v.item + 1) (live_items_at items v.number) in
      let rest : Parts = live_parts (parts_within (length ms) ms) ms weights p v.first (v.next + below) (items_at ms v.number) others in
      let back : Parts = pending_parts ms items weights s.prefix (reverse s.way) in
      let total = sub_total whole s v n l is laid at h in
      let few = h.few in
      let gives : parts_within (length ms) ms q v.next m ≡ and_parts own child = laid.gives l.child m is.below_at q v.next (omega (arith, total.1)) in
      let named : named_parts (parts_within (length ms) ms) p v.first v.next (slice_get (items_at ms v.number) l.item) (slice_get ms l.child) ≡ and_parts conn (and_parts own child) =
      ap (λ (o : Option Item). named_parts (parts_within (length ms) ms) p v.first v.next o (slice_get ms l.child)) is.item_at
      ∙ ap (sub_parts (parts_within (length ms) ms) p v.first v.next is.sub) is.below_at ∙ ap (λ (x : Parts). and_parts conn x) gives in
      let cut : live_parts (parts_within (length ms) ms) ms weights p v.first v.next (items_at ms v.number) (drop v.item (live_items_at items v.number)) ≡ and_parts (and_parts conn (and_parts own child)) rest =
      ap (live_parts (parts_within (length ms) ms) ms weights p v.first v.next (items_at ms v.number)) (drop_at (live_items_at items v.number) v.item (Sub l) at) ∙ ap (λ (x : Parts). and_parts x rest) named in
      let same : take v.prefix q ≡ p = kept s.prefix is.sub.name v.prefix b.0.1 in
      let backs : back ≡ pending_parts ms items weights q (reverse s.way) = pending_same ms items weights (length n.nets) s.prefix q v.prefix (reverse s.way) (sym same) b.0.2 in
      let fronts : live_parts (parts_within (length ms) ms) ms weights (take (length q) q) v.next (v.next + length m.nets) (items_at ms l.child) (live_items_at items l.child) ≡ child =
      ap (λ (x : Text). live_parts (parts_within (length ms) ms) ms weights x v.next (v.next + length m.nets) (items_at ms l.child) (live_items_at items l.child)) (take_all (length q) q (omega arith)) in
      let rests : live_parts (parts_within (length ms) ms) ms weights (take v.prefix q) v.first (v.next + below) (items_at ms v.number) others ≡ rest = ap (λ (x : Text). live_parts (parts_within (length ms) ms) ms weights x v.first (v.next + below) (items_at ms v.number) others) same in
      ap (λ (x : Parts). adds (and_parts x back) n) cut
      ∙ ap (λ (x : Parts). adds x n) (parts_assoc (and_parts conn (and_parts own child)) rest back ∙ parts_assoc conn (and_parts own child) (and_parts rest back) ∙ ap (λ (x : Parts). and_parts conn x) (parts_assoc own child (and_parts rest back)))
      ∙ adds_append conn (and_parts own (and_parts child (and_parts rest back))) n
      ∙ ap (λ (x : Parts). and_grown (adds conn n) (adds (and_parts child (and_parts rest x)))) backs
      ∙ ap (λ (x : Parts). and_grown (adds conn n) (adds (and_parts child (and_parts x (pending_parts ms items weights q (reverse s.way)))))) (sym rests)
      ∙ ap (λ (x : Parts). and_grown (adds conn n) (adds (and_parts x (and_parts (live_parts (parts_within (length ms) ms) ms weights (take v.prefix q) v.first (v.next + below) (items_at ms v.number) others) (pending_parts ms items weights q (reverse s.way)))))) (sym fronts)

  pub sub_passed : (whole : Grown) (s : ItemStand) (v : Visit) (n new : Netlist) (l : LiveSub) → (is : IsSubAt ms v.number l) → AreItemsLaid library ms items weights → slice_get (live_items_at items v.number) v.item ≡ Some (Sub l) →
      new ≡ with_joins n (connection_joins v.first v.next is.sub.connections is.below.ports) → IsPrefix (inside (take v.prefix s.prefix) is.sub.name) → IsItemWalk ms items weights library whole (and_visit s v) n →
      IsItemWalk ms items weights library whole (gone_into (and_visit s (passed_by v (get_or weights l.child no_weight).nets)) v is.sub.name l.child (length is.below.nets)) new
  sub_passed whole s v n new l is laid at joined printed h =
      let b = the_back whole s v n h in
      let q : Text = inside (take v.prefix s.prefix) is.sub.name in
      let m = is.below in
      let below = (get_or weights l.child no_weight).nets in
      let c : Visit = visit_at l.child v.next (length m.nets) (length q) in
      let w : Visit = passed_by v below in
      let total = sub_total whole s v n l is laid at h in
      let few = h.few in
      let split = laid.totals l.child m is.below_at (omega (arith, total.1)) in
      let span = b.0.0 in
      let span_rest = span.rest in
      let cut = ap (λ (ls : List LiveItem). total_by (nets_of weights) ls) (drop_at (live_items_at items v.number) v.item (Sub l) at) in
      let size : length new.nets ≡ length n.nets = ap (λ (x : Netlist). length x.nets) joined in
      let long = length-append (take v.prefix s.prefix) is.sub.name in
      let longer = length-append (take v.prefix s.prefix ++ is.sub.name) (47 ∷ []) in
      let kept_size = length-take-le v.prefix s.prefix b.0.1 in
      let back : reverse ((s.way ++ w ∷ []) ++ c ∷ []) ≡ c ∷ w ∷ reverse s.way = back-push (s.way ++ w ∷ []) c ∙ ap (λ (xs : List Visit). c ∷ xs) (back-push s.way w) in
      let spans : AreSpans ms items weights (length n.nets) (length q) (c ∷ w ∷ reverse s.way) = (
        record { m = m; at = is.below_at; own = omega (arith, total.1, split); rest = omega (arith, total.1, split) },
        (omega arith),
        (record { m = span.m; at = span.at; own = span.own; rest = omega (arith, total.0) }, (omega arith), b.0.2),
      ) in
      record {
        spans = subst (λ (k : ℕ). AreSpans ms items weights k (length q) (reverse ((s.way ++ w ∷ []) ++ c ∷ []))) (sym size) (subst (AreSpans ms items weights (length n.nets) (length q)) (sym back) spans);
        printed = printed;
        few = omega arith;
        over = ap (λ (x : Netlist). x.library) joined ∙ h.over;
        rest = ap (λ (xs : List Visit). adds (pending_parts ms items weights q xs) new) back ∙ ap (adds (pending_parts ms items weights q (c ∷ w ∷ reverse s.way))) joined ∙ sym (sub_pending whole s v n l is laid at h) ∙ b.1;
      }

  -- ---- how many steps are left

  pub own_fewer : (way : List Visit) (v : Visit) (place : ℕ) → slice_get (live_items_at items v.number) v.item ≡ Some (Own place) → item_way_size ms items (way ++ passed_own v ∷ []) < item_way_size ms items (way ++ v ∷ [])
  own_fewer way v place at =
      let a = sum_push (item_visit_size ms items) way (passed_own v) in
      let b = sum_push (item_visit_size ms items) way v in
      let f : LiveItem → ℕ = step_of (item_size_in (length ms) items) in
      let cut : total_by f (drop v.item (live_items_at items v.number)) ≡ f (Own place) + total_by f (drop (v.item + 1) (live_items_at items v.number)) = ap (total_by f) (drop_at (live_items_at items v.number) v.item (Own place) at) in
      omega arith

  pub sub_fewer : (way : List Visit) (v : Visit) (l : LiveSub) (below : ℕ) (c : Visit) → c.number ≡ l.child → c.item ≡ 0 → slice_get (live_items_at items v.number) v.item ≡ Some (Sub l) → item_size_in (length ms) items l.child ≡ item_size_in (suc (length ms)) items l.child →
      item_way_size ms items ((way ++ passed_by v below ∷ []) ++ c ∷ []) < item_way_size ms items (way ++ v ∷ [])
  sub_fewer way v l below c number start at deep =
      let a = sum_push (item_visit_size ms items) (way ++ passed_by v below ∷ []) c in
      let b = sum_push (item_visit_size ms items) way (passed_by v below) in
      let d = sum_push (item_visit_size ms items) way v in
      let f : LiveItem → ℕ = step_of (item_size_in (length ms) items) in
      let cut : total_by f (drop v.item (live_items_at items v.number)) ≡ f (Sub l) + total_by f (drop (v.item + 1) (live_items_at items v.number)) = ap (total_by f) (drop_at (live_items_at items v.number) v.item (Sub l) at) in
      let child : item_visit_size ms items c ≡ item_size_in (suc (length ms)) items l.child = ap (λ (k : ℕ). suc (total_by f (drop k (live_items_at items c.number)))) start ∙ ap (λ (k : ℕ). suc (total_by f (live_items_at items k))) number in
      omega arith

  pub back_fewer : (way : List Visit) (v : Visit) → item_way_size ms items way < item_way_size ms items (way ++ v ∷ [])
  back_fewer way v = let d = sum_push (item_visit_size ms items) way v in omega arith

  -- ---- the top

  pub items_begin : (top : ℕ) (m : Module) (n : Netlist) → AreItemsLaid library ms items weights → slice_get ms top ≡ Some m → length n.nets ≡ net_total ms m → length n.nets ≤ MAX_NETS → n.library ≡ library →
      IsItemWalk ms items weights library (adds (parts_within (length ms) ms [] 0 m) n) (at_top top (length m.nets)) n
  items_begin top m n laid at size few same =
      let split = laid.totals top m at (omega arith) in
      let gives = laid.gives top m at [] 0 (omega arith) in
      let e : 0 + length m.nets ≡ length m.nets = omega arith in
      record {
        spans = (record { m = m; at = at; own = omega arith; rest = omega arith }, (omega arith), tt);
        printed = λ k d less. absurd (omega (arith, less));
        few = few;
        over = same;
        rest = ap (λ (x : Parts). adds x n) (parts_nil (live_parts (parts_within (length ms) ms) ms weights [] 0 (length m.nets) (items_at ms top) (live_items_at items top)))
            ∙ sym (ap (λ (x : Parts). adds x n) gives
            ∙ ap (λ (k : ℕ). adds (live_parts (parts_within (length ms) ms) ms weights [] 0 k (items_at ms top) (live_items_at items top)) n) e);
      }
