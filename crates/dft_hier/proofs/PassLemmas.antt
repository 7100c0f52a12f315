-- Past an item of a module's own, past an instance, and back.
use Rattle.std.proofs.Common.{ℕ, zero, suc, ◌+◌, ◌<◌, ◌≤◌, ◌≡◌, ◌^◌, List, [], ◌∷◌, ◌++◌, length, take, get_or, None, Some, Result, Ok, Err, slice_get, OnOk, refl, sym, ap, subst, arith, ◌∙◌}
use Rattle.std.specs.List.{All}
use Rattle.std.specs.Result.{MatchResult}
use Rattle.std.proofs.lemmas.Option.{slice_get_within, slice_get-get_or}
use Rattle.std.proofs.lemmas.List.{get_or_read}
use Rattle.dft_base.specs.Lexing.{Text}
use Rattle.dft_cells.specs.declared.cell.Cell.{Cell}
use Rattle.dft_netlist.specs.declared.error.NetlistError.{NetlistError}
use Rattle.dft_netlist.specs.declared.port.Port.{Port}
use Rattle.dft_netlist.specs.Netlist.{Netlist}
use Rattle.dft_netlist_text.specs.NetlistText.{Grown}
use Rattle.dft_modules.specs.declared.connections.Connection.{Connection}
use Rattle.dft_modules.specs.declared.module.SubInstance.{SubInstance}
use Rattle.dft_modules.specs.declared.module.Item.{Item}
use Rattle.dft_modules.specs.Modules.{Module}
use Rattle.dft_hier.specs.declared.flat_items.Visit.{Visit}
use Rattle.dft_hier.specs.declared.weights.Weight.{Weight}
use Rattle.dft_hier.specs.declared.weights.LiveSub.{LiveSub}
use Rattle.dft_hier.specs.declared.weights.LiveItem.{LiveItem}
use Rattle.dft_hier.specs.declared.weights.LiveItem.TheVariants.{Own, Sub}
use Rattle.dft_hier.specs.FlatNets.{items_at, IsSubAt}
use Rattle.dft_hier.specs.FlatItems.{own_parts, live_items_at}
use Rattle.dft_hier.specs.Growing.{Grows, IsPrefix, IsRefusal}
use Rattle.dft_hier.specs.ItemWalks.{ItemStand, passed_own, passed_by, visit_at, gone_into, and_visit, adds, IsItemWalk, item_way_size}
use Rattle.dft_hier.specs.ItemsLaid.{AreItemsLaid, IsOwnAt}
use Rattle.dft_hier.specs.Weights.{Live, no_live, no_weight}
use Rattle.dft_hier.specs.Moving.{AreJoinsOf, AreBitsWritable, AreWritable, with_joins}
use Rattle.dft_hier.specs.Flat.{inside, joined_to, connection_joins}
use Rattle.dft_hier.proofs.ConnectLemmas.{connects}
use Rattle.dft_hier.proofs.EnterLemmas.{outcome, child_there}
use Rattle.dft_hier.proofs.ItemWalkLemmas.{top_visit, top_prefix, own_passed, own_stops, own_fewer, sub_total, sub_passed, sub_fewer}

-- the module of a visit is there
pub visited : (ms : List Module) (items : List Live) (weights : List Weight) (library : List Cell) (whole : Grown) (s : ItemStand) (v : Visit) (n : Netlist) → IsItemWalk ms items weights library whole (and_visit s v) n → v.number < length ms
visited ms items weights library whole s v n h = let span = top_visit ms items weights library whole s v n h in slice_get_within ms v.number span.m span.at

-- the item of its own at a place
pub own_there : (ms : List Module) (number place : ℕ) (read : List Item) → items_at ms number ≡ read → (own : IsOwnAt ms number place) → slice_get read place ≡ Some own.own
own_there ms number place read are own = ap (λ (xs : List Item). slice_get xs place) (sym are) ∙ own.item_at

pub own_within : (ms : List Module) (number place : ℕ) (read : List Item) → items_at ms number ≡ read → IsOwnAt ms number place → place < length read
own_within ms number place read are own = slice_get_within read place own.own (own_there ms number place read are own)

pub own_at : (ms : List Module) (number place : ℕ) (read : List Item) (i : Item) → items_at ms number ≡ read → IsOwnAt ms number place → i ≡ get_or read place i → slice_get (items_at ms number) place ≡ Some i
own_at ms number place read i are own is = ap (λ (xs : List Item). slice_get xs place) are ∙ slice_get-get_or read place i (own_within ms number place read are own) ∙ ap (λ (x : Item). Some x) (sym is)

-- the prefix of a visit is there
pub prefix_within : (ms : List Module) (items : List Live) (weights : List Weight) (library : List Cell) (whole : Grown) (s : ItemStand) (v : Visit) (n : Netlist) → IsItemWalk ms items weights library whole (and_visit s v) n → v.prefix ≤ length s.prefix
prefix_within ms items weights library whole s v n h = top_prefix ms items weights library whole s v n h

pub own_walked : {X : Type 0} (ms : List Module) (items : List Live) (weights : List Weight) (library : List Cell) (whole : Grown) (s : ItemStand) (v : Visit) (n new : Netlist) (i : Item) (place : ℕ) (prefix : Text) (t : ItemStand) (r : Result X NetlistError) →
    slice_get (live_items_at items v.number) v.item ≡ Some (Own place) → slice_get (items_at ms v.number) place ≡ Some i → prefix ≡ take v.prefix s.prefix → t ≡ and_visit s (passed_own v) → Grows (adds (own_parts prefix v.first (Some i)) n) r new →
    IsItemWalk ms items weights library whole (and_visit s v) n → MatchResult r (λ _. IsItemWalk ms items weights library whole t new) (IsRefusal whole)
own_walked ms items weights library whole s v n new i place prefix t r at there kept stand grows h =
    let same : adds (own_parts prefix v.first (Some i)) n ≡ adds (own_parts (take v.prefix s.prefix) v.first (Some i)) n = ap (λ (p : Text). adds (own_parts p v.first (Some i)) n) kept in
    outcome (adds (own_parts prefix v.first (Some i)) n) whole new (IsItemWalk ms items weights library whole t new) r
    (λ added. subst (λ (x : ItemStand). IsItemWalk ms items weights library whole x new) (sym stand) (own_passed ms items weights library whole s v n new i place at there (sym same ∙ added) h))
    (λ why added. own_stops ms items weights library whole s v n i place why at there (sym same ∙ added) h) grows

pub own_less : {X : Type 0} (ms : List Module) (items : List Live) (weights : List Weight) (library : List Cell) (s : ItemStand) (v : Visit) (place : ℕ) (t : ItemStand) (r : Result X NetlistError) → slice_get (live_items_at items v.number) v.item ≡ Some (Own place) → t ≡ and_visit s (passed_own v) →
    OnOk r (item_way_size ms items t.way < item_way_size ms items (s.way ++ v ∷ []))
own_less ms items weights library s v place t (Ok x) at stand = subst (λ (y : ItemStand). item_way_size ms items y.way < item_way_size ms items (s.way ++ v ∷ [])) (sym stand) (own_fewer ms items weights library s.way v place at)
own_less ms items weights library s v place t (Err e) at stand = tt

-- ---- the items that give something, by a module's number

pub live_items_are : (items : List Live) (number : ℕ) (x : Live) (live : List LiveItem) → number < length items → x ≡ get_or items number x → live ≡ x.items → live_items_at items number ≡ live
live_items_are items number x live less is are = ap (λ (y : Live). y.items) (sym (get_or_read items number x less is no_live)) ∙ sym are

past_none : (xs : List LiveItem) (k : ℕ) → slice_get xs k ≡ None → length xs ≤ k
past_none [] k e = omega arith
past_none (x ∷ xs) zero e = absurd (let f : ⊥ = cc in f)
past_none (x ∷ xs) (suc k) e = let r = past_none xs k e in omega arith

pub item_next : (items : List Live) (number next : ℕ) (x : Live) (live : List LiveItem) (l : LiveItem) → number < length items → x ≡ get_or items number x → live ≡ x.items → slice_get live next ≡ Some l → slice_get (live_items_at items number) next ≡ Some l
item_next items number next x live l less is are at = ap (λ (ls : List LiveItem). slice_get ls next) (live_items_are items number x live less is are) ∙ at

pub items_over : (items : List Live) (number next : ℕ) (x : Live) (live : List LiveItem) → number < length items → x ≡ get_or items number x → live ≡ x.items → slice_get live next ≡ None → length (live_items_at items number) ≤ next
items_over items number next x live less is are at = past_none (live_items_at items number) next (ap (λ (ls : List LiveItem). slice_get ls next) (live_items_are items number x live less is are) ∙ at)

-- ---- into the module of an instance

the_below : (ms : List Module) (number : ℕ) (l : LiveSub) (m : Module) (is : IsSubAt ms number l) → m ≡ get_or ms l.child m → m ≡ is.below
the_below ms number l m is read =
    let same : Some m ≡ Some is.below = ap (λ (x : Module). Some x) read ∙ sym (slice_get-get_or ms l.child m (child_there ms number l is)) ∙ is.below_at in
    cc

pub sub_connects : (ms : List Module) (items : List Live) (weights : List Weight) (library : List Cell) (whole : Grown) (s : ItemStand) (v : Visit) (n : Netlist) (l : LiveSub) (m : Module) (sub : SubInstance) (ports : List Port) (connections : List Connection) (is : IsSubAt ms v.number l) → AreItemsLaid library ms items weights → slice_get (live_items_at items v.number) v.item ≡ Some (Sub l) →
    IsItemWalk ms items weights library whole (and_visit s v) n → m ≡ get_or ms l.child m → sub ≡ is.sub → ports ≡ m.ports → connections ≡ sub.connections →
    All (λ (p : Port). AreBitsWritable v.next p.bits) ports × All (λ (p : Port). AreWritable v.first (joined_to connections p.name)) ports × AreJoinsOf n (connection_joins v.first v.next connections ports)
sub_connects ms items weights library whole s v n l m sub ports connections is laid at walk read same are joined =
    let k = connects ms items weights library whole s v n l is laid at walk in
    let below : ports ≡ is.below.ports = are ∙ ap (λ (x : Module). x.ports) (the_below ms v.number l m is read) in
    let own : connections ≡ is.sub.connections = joined ∙ ap (λ (x : SubInstance). x.connections) same in
    rw (below, own) (k.bits, k.signals, k.fits)

-- the walk over instances goes on into the module of an instance, whose ports are joined to the nets outside
pub sub_entered : (ms : List Module) (items : List Live) (weights : List Weight) (library : List Cell) (whole : Grown) (s : ItemStand) (v : Visit) (n new : Netlist) (l : LiveSub) (m : Module) (sub : SubInstance) (ports : List Port) (connections : List Connection) (below count : ℕ) (t : ItemStand) (is : IsSubAt ms v.number l) →
    AreItemsLaid library ms items weights → slice_get (live_items_at items v.number) v.item ≡ Some (Sub l) → m ≡ get_or ms l.child m → sub ≡ is.sub → ports ≡ m.ports → connections ≡ sub.connections → below ≡ (get_or weights l.child no_weight).nets → count ≡ length m.nets →
    new ≡ with_joins n (connection_joins v.first v.next connections ports) → t ≡ gone_into (and_visit s (passed_by v below)) v sub.name l.child count → IsPrefix t.prefix → IsItemWalk ms items weights library whole (and_visit s v) n → IsItemWalk ms items weights library whole t new
sub_entered ms items weights library whole s v n new l m sub ports connections below count t is laid at read same are joined weighs counted added stand printed walk =
    let inner = the_below ms v.number l m is read in
    let all : ports ≡ is.below.ports = are ∙ ap (λ (x : Module). x.ports) inner in
    let own : connections ≡ is.sub.connections = joined ∙ ap (λ (x : SubInstance). x.connections) same in
    let size : count ≡ length is.below.nets = counted ∙ ap (λ (x : Module). length x.nets) inner in
    let named : sub.name ≡ is.sub.name = ap (λ (x : SubInstance). x.name) same in
    let there : t ≡ gone_into (and_visit s (passed_by v (get_or weights l.child no_weight).nets)) v is.sub.name l.child (length is.below.nets) =
    stand ∙ ap (λ (b : ℕ). gone_into (and_visit s (passed_by v b)) v sub.name l.child count) weighs
    ∙ ap (λ (x : Text). gone_into (and_visit s (passed_by v (get_or weights l.child no_weight).nets)) v x l.child count) named
    ∙ ap (λ (k : ℕ). gone_into (and_visit s (passed_by v (get_or weights l.child no_weight).nets)) v is.sub.name l.child k) size in
    let grown : new ≡ with_joins n (connection_joins v.first v.next is.sub.connections is.below.ports) =
    added ∙ ap (λ (ps : List Port). with_joins n (connection_joins v.first v.next connections ps)) all ∙ ap (λ (cs : List Connection). with_joins n (connection_joins v.first v.next cs is.below.ports)) own in
    subst (λ (x : ItemStand). IsItemWalk ms items weights library whole x new) (sym there)
    (sub_passed ms items weights library whole s v n new l is laid at grown (subst (λ (x : ItemStand). IsPrefix x.prefix) there printed) walk)

pub sub_less : (ms : List Module) (items : List Live) (weights : List Weight) (library : List Cell) (s : ItemStand) (v : Visit) (l : LiveSub) (name : Text) (below count : ℕ) (t : ItemStand) → AreItemsLaid library ms items weights → IsSubAt ms v.number l → slice_get (live_items_at items v.number) v.item ≡ Some (Sub l) →
    t ≡ gone_into (and_visit s (passed_by v below)) v name l.child count → item_way_size ms items t.way < item_way_size ms items (s.way ++ v ∷ [])
sub_less ms items weights library s v l name below count t laid is at stand =
    subst (λ (x : ItemStand). item_way_size ms items x.way < item_way_size ms items (s.way ++ v ∷ [])) (sym stand)
    (sub_fewer ms items weights library s.way v l below (visit_at l.child v.next count (length (inside (take v.prefix s.prefix) name))) refl refl at (laid.steps l.child (child_there ms v.number l is)))

-- the numbers of its nets can be written
pub sub_small : (ms : List Module) (items : List Live) (weights : List Weight) (library : List Cell) (whole : Grown) (s : ItemStand) (v : Visit) (n : Netlist) (l : LiveSub) (m : Module) (below count : ℕ) (is : IsSubAt ms v.number l) → AreItemsLaid library ms items weights → slice_get (live_items_at items v.number) v.item ≡ Some (Sub l) →
    m ≡ get_or ms l.child m → below ≡ (get_or weights l.child no_weight).nets → count ≡ length m.nets → IsItemWalk ms items weights library whole (and_visit s v) n → (v.next + below < 2 ^ 32) × (v.next + count < 2 ^ 32)
sub_small ms items weights library whole s v n l m below count is laid at read weighs counted walk =
    let total = sub_total ms items weights library whole s v n l is laid at walk in
    let few = walk.few in
    let same = total.0 in
    let less = total.1 in
    let split = laid.totals l.child is.below is.below_at (omega arith) in
    let size = counted ∙ ap (λ (x : Module). length x.nets) (the_below ms v.number l m is read) in
    (omega arith, omega arith)
