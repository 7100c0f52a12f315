-- By marks: the nets that are reached and those that lead to them, the points and the variables.
use Rattle.std.proofs.Common.{ℕ, zero, suc, ◌≡◌, ◌<◌, ◌≤◌, ◌==◌, ◌⊎◌, inl, inr, Bool, true, false, ◌&&◌, ◌||◌, List, [], ◌∷◌, ◌++◌, length, map, filter, flat_map, slice_get, Option, None, Some, refl, sym, subst, ap, arith, ◌∙◌, true≢false}
use Rattle.std.specs.Prelude.{if◌then◌else◌, nat_lt}
use Rattle.std.specs.List.{AllByRecursion, list_any}
use Rattle.std.proofs.lemmas.Bool.{eqb-true, eq-eqb, lt-ltb, le-ltb, or_right}
use Rattle.std.proofs.lemmas.Bool.Decides.{leb_tells}
use Rattle.std.proofs.lemmas.List.{get_or_default, get_or_past}
use Rattle.std.proofs.lemmas.List.Elements.{filter-append}
use Rattle.std.proofs.lemmas.Option.{none-some, same_Some}
use Rattle.dft_netlist.specs.declared.ids.NetId.{NetId}
use Rattle.dft_netlist.specs.declared.ids.InstanceId.{InstanceId}
use Rattle.dft_netlist.specs.Drivers.{Driver, Gate, Joined, Flop, Free, driver}
use Rattle.dft_netlist.specs.Drivers as drivers
use Rattle.dft_netlist.specs.Orders.{Has, numbers_of}
use Rattle.dft_expect.specs.Captures.{output_bits}
use Rattle.dft_logic.specs.Circuit.{IsCircuit, flag_at}
use Rattle.dft_faults.specs.declared.fault.Fault.{Fault}
use Rattle.dft_seek.specs.Searches.{Search, Point, Output, Response, cells_in, drivable_ports, points_of, takes_at}
use Rattle.dft_seek.specs.Walks.{Cell, Port, Variable, IsReached, IsVariable, Walks, ends_of, is_among, shows, taken_nets, walked_from}
use Rattle.dft_seek.specs.Walks as walks
use Rattle.dft_seek.specs.Marks.{IsDrawn, IsSpread, Path, Raises, steps_at}
use Rattle.dft_seek.specs.Marks as marks
use Rattle.dft_seek.specs.Pins.{pins_at, taken_by}
use Rattle.dft_sweep.specs.Fields.{is_needed}
use Rattle.dft_seek.specs.Cones.{AreBefore, AreBehind, AreNeeded, AreTaking, LeadsIn, cone_of, shown_in}
use Rattle.dft_seek.specs.Rigs.{IsRig, search_in, search_of, shows_in}
use Rattle.dft_seek.specs.Steps.{shown_at}
use Rattle.dft_seek.specs.declared.cones.Cone.{Cone}
use Rattle.dft_seek.specs.declared.rig.Rig.{Rig}
use Rattle.dft_seek.proofs.MarkLemmas.{among_one, either_up, any_among, among_either}
use Rattle.dft_seek.proofs.PinLemmas.{among_here, among_left, among_right}
use Rattle.dft_seek.proofs.PinsKept.{taken_kept}
use Rattle.dft_seek.proofs.OnceLemmas.{all_filter}

-- ---- steps

-- the fault does not matter for walks
walked_same : (r : Rig) (f : Fault) (d : Driver) → walked_from (search_of r) d ≡ walked_from (search_in r f) d
walked_same r f drivers.Input = refl
walked_same r f (Gate kind inputs) = refl
walked_same r f (Joined source) = refl
walked_same r f (Flop i inverted) = refl
walked_same r f (drivers.Lockup i) = refl
walked_same r f Free = refl

steps_are : (r : Rig) (f : Fault) (net : ℕ) → IsRig r → steps_at r.steps.items net ≡ walked_from (search_in r f) (driver r.design.now net)
steps_are r f net rig = rig.steps net ∙ walked_same r f (driver r.design.now net)

walk_of : (r : Rig) (f : Fault) (a b : ℕ) → IsRig r → Path (steps_at r.steps.items) a b → Walks (search_in r f) a b
walk_of r f a b rig marks.Here = walks.Here
walk_of r f a b rig (marks.Onward {by = by} {to = to} path step) = walks.Onward (walk_of r f a by rig path) (ap (is_among by) (sym (steps_are r f to rig)) ∙ step)

path_of : (r : Rig) (f : Fault) (a b : ℕ) → IsRig r → Walks (search_in r f) a b → Path (steps_at r.steps.items) a b
path_of r f a b rig walks.Here = marks.Here
path_of r f a b rig (walks.Onward {by = by} {to = to} walk step) = marks.Onward (path_of r f a by rig walk) (ap (is_among by) (steps_are r f to rig) ∙ step)

-- to a net past the end no walk goes on
no_step : (r : Rig) (by to : ℕ) → length r.steps.items ≤ to → is_among by (steps_at r.steps.items to) ≡ true → ⊥
no_step r by to past step = absurd (true≢false (sym step ∙ ap (λ (nets : List NetId). is_among by (numbers_of nets)) (get_or_past r.steps.items to [] past)))

step_live : (r : Rig) (by to : ℕ) → is_among by (steps_at r.steps.items to) ≡ true → to < length r.steps.items
step_live r by to step = elim (leb_tells (length r.steps.items) to) [
  | inl out ↦ absurd (no_step r by to out.1 step)
  | inr less ↦ less.1
]

has_among : (k : ℕ) (nets : List ℕ) → Has nets k → is_among k nets ≡ true
has_among k [] has = absurd has
has_among k (x ∷ nets) (inl same) = ap (λ (b : Bool). b || is_among k nets) (eq-eqb x k (sym same))
has_among k (x ∷ nets) (inr later) = among_right k (x ∷ []) nets (has_among k nets later)

in_order : (r : Rig) (net : ℕ) → IsRig r → IsCircuit r.circuit → net < length r.design.now.nets → is_among net (numbers_of r.circuit.order) ≡ true
in_order r net rig is less = has_among net (numbers_of r.circuit.order) (is.whole net (let e = rig.nets in omega (arith, less, e)))

any_here : (marked : List Bool) (k : ℕ) (nets : List ℕ) → flag_at marked k ≡ true → is_among k nets ≡ true → list_any (flag_at marked) nets ≡ true
any_here marked k [] up among = absurd (true≢false (sym among))
any_here marked k (x ∷ nets) up among = by (x == k) refl (flag_at marked x) refl (any_here marked k nets up) among
  where
    by : (a : Bool) → (x == k) ≡ a → (b : Bool) → flag_at marked x ≡ b → (is_among k nets ≡ true → list_any (flag_at marked) nets ≡ true) → (a || is_among k nets) ≡ true → (b || list_any (flag_at marked) nets) ≡ true
    by a same true is below h = refl
    by true same false is below h = absurd (true≢false (sym up ∙ sym (ap (flag_at marked) (eqb-true x k same)) ∙ is))
    by false same false is below h = below h

-- ---- the nets that are reached

behind_whole : (r : Rig) (from k : ℕ) (start marked : List Bool) → IsRig r → IsCircuit r.circuit → length r.steps.items ≡ length r.design.now.nets → length start ≡ length r.design.now.nets → flag_at start from ≡ true →
    IsSpread (steps_at r.steps.items) (numbers_of r.circuit.order) start marked → Path (steps_at r.steps.items) from k → flag_at marked k ≡ true
behind_whole r from k start marked rig circuit table size up spread marks.Here = spread.kept from up
behind_whole r from k start marked rig circuit table size up spread (marks.Onward {by = by} path step) =
    let less : k < length r.steps.items = step_live r by k step in
    spread.closed k (in_order r k rig circuit (omega (arith, less, table))) (omega (arith, less, table, size)) (any_here marked by (steps_at r.steps.items k) (behind_whole r from by start marked rig circuit table size up spread path) step)

-- where only one net is marked first
pub behind_are : (r : Rig) (f : Fault) (from : ℕ) (none start marked : List Bool) (fresh : Bool) → IsRig r → IsCircuit r.circuit → length r.steps.items ≡ length r.design.now.nets → length none ≡ length r.design.now.nets → ((k : ℕ) → flag_at none k ≡ false) →
    from < length r.design.now.nets → Raises none start (from ∷ []) fresh → IsSpread (steps_at r.steps.items) (numbers_of r.circuit.order) start marked → AreBehind (search_in r f) from marked
behind_are r f from none start marked fresh rig circuit table size clear live raised spread =
    let first : flag_at start from ≡ true = raised.done from (among_here from []) (omega (arith, live, size)) in
    let started : length start ≡ length r.design.now.nets = raised.grown.size ∙ size in
    record {
      size = spread.size ∙ started;
      sound = λ net up. (let is = spread.only net up in
          elim (raised.only is.from is.is_up) [
            | inl was ↦ absurd (true≢false (sym was ∙ clear is.from))
            | inr among ↦ subst (λ (k : ℕ). Walks (search_in r f) k net) (among_one is.from from among) (walk_of r f is.from net rig is.path)
          ]);
      whole = λ net walk. behind_whole r from net start marked rig circuit table started first spread (path_of r f from net rig walk);
    }

-- ---- the nets that lead to some

before_whole : (r : Rig) (net to : ℕ) (start marked : List Bool) → IsRig r → IsCircuit r.circuit → length r.steps.items ≡ length r.design.now.nets → length start ≡ length r.design.now.nets →
    IsDrawn (steps_at r.steps.items) (numbers_of r.circuit.order) start marked → (to < length r.design.now.nets → flag_at marked to ≡ true) → Path (steps_at r.steps.items) net to → net < length r.design.now.nets → flag_at marked net ≡ true
before_whole r net to start marked rig circuit table size drawn up marks.Here live = up live
before_whole r net to start marked rig circuit table size drawn up (marks.Onward {by = by} path step) live =
    let less : to < length r.design.now.nets = (let l = step_live r by to step in omega (arith, l, table)) in
    before_whole r net by start marked rig circuit table size drawn (λ here. drawn.closed to (in_order r to rig circuit less) (up less) by step (omega (arith, here, size))) path live

pub before_are : (r : Rig) (f : Fault) (ends : List ℕ) (none start marked : List Bool) (fresh : Bool) → IsRig r → IsCircuit r.circuit → length r.steps.items ≡ length r.design.now.nets → length none ≡ length r.design.now.nets → ((k : ℕ) → flag_at none k ≡ false) →
    Raises none start ends fresh → IsDrawn (steps_at r.steps.items) (numbers_of r.circuit.order) start marked → AreBefore (search_in r f) ends marked
before_are r f ends none start marked fresh rig circuit table size clear raised drawn =
    let started : length start ≡ length r.design.now.nets = raised.grown.size ∙ size in
    record {
      size = drawn.size ∙ started;
      sound = λ net up. (let is = drawn.only net up in
          elim (raised.only is.to is.is_up) [
            | inl was ↦ absurd (true≢false (sym was ∙ clear is.to))
            | inr among ↦ record { to = is.to; among = among; walk = walk_of r f net is.to rig is.path }
          ]);
      whole = λ net live leads. before_whole r net leads.to start marked rig circuit table started drawn (λ here. drawn.kept leads.to (raised.done leads.to leads.among (omega (arith, here, size)))) (path_of r f net leads.to rig leads.walk) live;
    }

-- ---- lists that are chosen from

filter_mapped : {A B : Type 0} (test : B → Bool) (g : A → B) (xs : List A) → filter test (map g xs) ≡ map g (filter (λ x. test (g x)) xs)
filter_mapped test g [] = refl
filter_mapped test g (x ∷ xs) = by (test (g x)) (filter_mapped test g xs)
  where
    by : (b : Bool) → filter test (map g xs) ≡ map g (filter (λ y. test (g y)) xs) → (if b then g x ∷ filter test (map g xs) else filter test (map g xs)) ≡ map g (if b then x ∷ filter (λ y. test (g y)) xs else filter (λ y. test (g y)) xs)
    by true below = ap (λ (l : List _). g x ∷ l) below
    by false below = below

filter_alike : {A : Type 0} (P : A → Type 0) (one other : A → Bool) (xs : List A) → AllByRecursion P xs → ((x : A) → P x → one x ≡ other x) → filter one xs ≡ filter other xs
filter_alike P one other [] all same = refl
filter_alike P one other (x ∷ xs) all same = λ t. if same x all.0 t then x ∷ filter_alike P one other xs all.1 same t else filter_alike P one other xs all.1 same t

-- each chosen one passes the test by which all are chosen
all_chosen : {A : Type 0} (test : A → Bool) (xs : List A) → AllByRecursion (λ x. test x ≡ true) (filter test xs)
all_chosen test [] = tt
all_chosen test (x ∷ xs) = by (test x) refl (all_chosen test xs)
  where
    by : (b : Bool) → test x ≡ b → AllByRecursion (λ y. test y ≡ true) (filter test xs) → AllByRecursion (λ y. test y ≡ true) (if b then x ∷ filter test xs else filter test xs)
    by true is rest = (is, rest)
    by false is rest = rest

pub taking_left : (r : Rig) (test : InstanceId → Bool) (cells : List InstanceId) → IsRig r → cells ≡ filter test r.responses.items → AreTaking r cells
taking_left r test cells rig is =
    subst (AreTaking r) (sym (is ∙ ap (filter test) rig.responses))
    (all_filter (λ (cell : InstanceId). (takes_at (search_of r) false cell.0 || takes_at (search_of r) true cell.0) ≡ true) test _ (all_chosen (λ cell. takes_at (search_of r) false cell.0 || takes_at (search_of r) true cell.0) (cells_in (search_of r))))

-- ---- points

abbrev chosen_point : Rig → List Bool → Point → Bool
chosen_point r reached (Output net) = flag_at reached net
chosen_point r reached (Response c) = list_any (flag_at reached) (taken_by (pins_at r.pins.items c))

pub points_are : (r : Rig) (f : Fault) (cone : Cone) (reached : List Bool) → IsRig r → AreBehind (search_in r f) f.net.0 reached → cone.outputs.items ≡ filter (λ net. flag_at reached net.0) r.outputs.items →
    cone.responses.items ≡ filter (λ cell. list_any (flag_at reached) (taken_by (pins_at r.pins.items cell.0))) r.responses.items → walks.AreReached (search_in r f) (cone_of cone).points
points_are r f cone reached rig behind outs resps =
    let s : Search = search_in r f in
    let chosen : Point → Bool = chosen_point r reached in
    record {
      chosen = chosen;
      are =
          (λ t. map (λ net. Output net.0) ((outs ∙ ap (filter (λ net. flag_at reached net.0)) rig.outputs) t)
          ++ map (λ cell. Response cell.0) ((resps ∙ ap (filter (λ cell. list_any (flag_at reached) (taken_by (pins_at r.pins.items cell.0)))) rig.responses) t))
          ∙ sym (filter-append chosen (map (λ net. Output net.0) (output_bits r.design.now.ports)) (map (λ cell. Response cell.0) (filter (λ cell. takes_at s false cell.0 || takes_at s true cell.0) (cells_in s)))
          ∙ (λ t. filter_mapped chosen (λ (net : NetId). Output net.0) (output_bits r.design.now.ports) t
          ++ filter_mapped chosen (λ (cell : InstanceId). Response cell.0) (filter (λ cell. takes_at s false cell.0 || takes_at s true cell.0) (cells_in s)) t));
      sound = sound;
      whole = whole;
    }
  where
    taken_is : (c : ℕ) → taken_by (pins_at r.pins.items c) ≡ taken_nets r.design.now c
    taken_is c = taken_kept r.design.now c (pins_at r.pins.items c) (rig.pins.each c)

    sound : (point : Point) → chosen_point r reached point ≡ true → IsReached (search_in r f) point
    sound (Output net) up = record { to = net; ends = among_here net []; walk = behind.sound net up }
    sound (Response c) up =
        let found = any_among reached (taken_by (pins_at r.pins.items c)) up in
        record { to = found.0; ends = ap (is_among found.0) (sym (taken_is c)) ∙ found.1.1; walk = behind.sound found.0 found.1.0 }

    whole : (point : Point) → IsReached (search_in r f) point → chosen_point r reached point ≡ true
    whole (Output net) is = behind.whole net (subst (λ (k : ℕ). Walks (search_in r f) f.net.0 k) (among_one is.to net is.ends) is.walk)
    whole (Response c) is = any_here reached is.to (taken_by (pins_at r.pins.items c)) (behind.whole is.to is.walk) (ap (is_among is.to) (taken_is c) ∙ is.ends)

-- ---- the ends of walks to points

-- the nets of the outputs, and those at the pins of the cells
abbrev pub ends_in : Rig → Cone → List ℕ
ends_in r cone = numbers_of cone.outputs.items ++ flat_map (λ cell. taken_by (pins_at r.pins.items cell.0)) cone.responses.items

-- a point of a list at which an end stands
record EndsAt (s : Search) (points : List Point) (to : ℕ) : Type 0 where
  place : ℕ
  point : Point
  at : slice_get points place ≡ Some point
  ends : is_among to (ends_of s point) ≡ true

ends_later : (s : Search) (point : Point) (points : List Point) (to : ℕ) → EndsAt s points to → EndsAt s (point ∷ points) to
ends_later s point points to is = record { place = suc is.place; point = is.point; at = is.at; ends = is.ends }

ends_points : (r : Rig) (f : Fault) (outs : List NetId) (resps : List InstanceId) (to : ℕ) → IsRig r → is_among to (numbers_of outs ++ flat_map (λ cell. taken_by (pins_at r.pins.items cell.0)) resps) ≡ true →
    EndsAt (search_in r f) (map (λ net. Output net.0) outs ++ map (λ cell. Response cell.0) resps) to
ends_points r f [] [] to rig is = absurd (true≢false (sym is))
ends_points r f [] (c ∷ resps) to rig is = elim (among_either to (taken_by (pins_at r.pins.items c.0)) (flat_map (λ cell. taken_by (pins_at r.pins.items cell.0)) resps) is) [
  | inl here ↦ record { place = 0; point = Response c.0; at = refl; ends = ap (is_among to) (sym (taken_kept r.design.now c.0 (pins_at r.pins.items c.0) (rig.pins.each c.0))) ∙ here }
  | inr later ↦ ends_later (search_in r f) (Response c.0) (map (λ cell. Response cell.0) resps) to (ends_points r f [] resps to rig later)
]
ends_points r f (net ∷ outs) resps to rig is = elim (either_up (net.0 == to) (is_among to (numbers_of outs ++ flat_map (λ cell. taken_by (pins_at r.pins.items cell.0)) resps)) is) [
  | inl here ↦ record { place = 0; point = Output net.0; at = refl; ends = ap (λ (b : Bool). b || false) here }
  | inr later ↦ ends_later (search_in r f) (Output net.0) (map (λ net. Output net.0) outs ++ map (λ cell. Response cell.0) resps) to (ends_points r f outs resps to rig later)
]

points_ends : (r : Rig) (f : Fault) (outs : List NetId) (resps : List InstanceId) (place to : ℕ) (point : Point) → IsRig r → slice_get (map (λ net. Output net.0) outs ++ map (λ cell. Response cell.0) resps) place ≡ Some point →
    is_among to (ends_of (search_in r f) point) ≡ true → is_among to (numbers_of outs ++ flat_map (λ cell. taken_by (pins_at r.pins.items cell.0)) resps) ≡ true
points_ends r f [] [] place to point rig at ends = absurd (none-some point at)
points_ends r f [] (c ∷ resps) zero to point rig at ends =
    among_left to (taken_by (pins_at r.pins.items c.0)) (flat_map (λ cell. taken_by (pins_at r.pins.items cell.0)) resps)
    (ap (is_among to) (taken_kept r.design.now c.0 (pins_at r.pins.items c.0) (rig.pins.each c.0)) ∙ ap (λ (p : Point). is_among to (ends_of (search_in r f) p)) (same_Some (Response c.0) point at) ∙ ends)
points_ends r f [] (c ∷ resps) (suc place) to point rig at ends =
    among_right to (taken_by (pins_at r.pins.items c.0)) (flat_map (λ cell. taken_by (pins_at r.pins.items cell.0)) resps) (points_ends r f [] resps place to point rig at ends)
points_ends r f (net ∷ outs) resps zero to point rig at ends =
    among_left to (net.0 ∷ []) (numbers_of outs ++ flat_map (λ cell. taken_by (pins_at r.pins.items cell.0)) resps) (ap (λ (p : Point). is_among to (ends_of (search_in r f) p)) (same_Some (Output net.0) point at) ∙ ends)
points_ends r f (net ∷ outs) resps (suc place) to point rig at ends =
    among_right to (net.0 ∷ []) (numbers_of outs ++ flat_map (λ cell. taken_by (pins_at r.pins.items cell.0)) resps) (points_ends r f outs resps place to point rig at ends)

-- ---- variables

-- a marked net that shows a flip-flop
shown_net : (shows_list : List (Option InstanceId)) (marked : List Bool) (c : ℕ) → shown_in shows_list marked c ≡ true → (net : ℕ) × ((flag_at marked net ≡ true) × (shows_in (shown_at shows_list net) c ≡ true))
shown_net [] marked c is = absurd (true≢false (sym is))
shown_net (o ∷ shows_list) [] c is = absurd (true≢false (sym is))
shown_net (o ∷ shows_list) (true ∷ marked) c is = elim (either_up (shows_in o c) (shown_in shows_list marked c) is) [
  | inl here ↦ (0, (refl, here))
  | inr later ↦ (let found = shown_net shows_list marked c later in (suc found.0, (found.1.0, found.1.1)))
]
shown_net (o ∷ shows_list) (false ∷ marked) c is = (let found = shown_net shows_list marked c is in (suc found.0, (found.1.0, found.1.1)))

net_shown : (shows_list : List (Option InstanceId)) (marked : List Bool) (c net : ℕ) → flag_at marked net ≡ true → shows_in (shown_at shows_list net) c ≡ true → shown_in shows_list marked c ≡ true
net_shown [] marked c net up is = absurd (true≢false (sym is))
net_shown (o ∷ shows_list) [] c net up is = absurd (true≢false (sym up))
net_shown (o ∷ shows_list) (flag ∷ marked) c zero up is = λ t. (up t && is t) || shown_in shows_list marked c
net_shown (o ∷ shows_list) (flag ∷ marked) c (suc net) up is = or_right (flag && shows_in o c) (shown_in shows_list marked c) (net_shown shows_list marked c net up is)

-- a marked net from which a walk goes on from this one
abbrev reads_in : List (List NetId) → (marked : List Bool) → (net : ℕ) → Bool
reads_in [] marked net = false
reads_in (nets ∷ steps) [] net = false
reads_in (nets ∷ steps) (flag ∷ marked) net = (flag && is_among net (numbers_of nets)) || reads_in steps marked net

read_net : (steps : List (List NetId)) (marked : List Bool) (net : ℕ) → reads_in steps marked net ≡ true → (to : ℕ) × ((flag_at marked to ≡ true) × (is_among net (steps_at steps to) ≡ true))
read_net [] marked net is = absurd (true≢false (sym is))
read_net (nets ∷ steps) [] net is = absurd (true≢false (sym is))
read_net (nets ∷ steps) (true ∷ marked) net is = elim (either_up (is_among net (numbers_of nets)) (reads_in steps marked net) is) [
  | inl here ↦ (0, (refl, here))
  | inr later ↦ (let found = read_net steps marked net later in (suc found.0, (found.1.0, found.1.1)))
]
read_net (nets ∷ steps) (false ∷ marked) net is = (let found = read_net steps marked net is in (suc found.0, (found.1.0, found.1.1)))

net_read : (steps : List (List NetId)) (marked : List Bool) (net to : ℕ) → flag_at marked to ≡ true → is_among net (steps_at steps to) ≡ true → reads_in steps marked net ≡ true
net_read [] marked net to up is = absurd (true≢false (sym is))
net_read (nets ∷ steps) [] net to up is = absurd (true≢false (sym up))
net_read (nets ∷ steps) (flag ∷ marked) net zero up is = λ t. (up t && is t) || reads_in steps marked net
net_read (nets ∷ steps) (flag ∷ marked) net (suc to) up is = or_right (flag && is_among net (numbers_of nets)) (reads_in steps marked net) (net_read steps marked net to up is)

-- from a net past the end: it is an end itself, or a walk goes on from it to a marked net
abbrev past_leads : Rig → Cone → List Bool → (net : ℕ) → Bool
past_leads r cone leading net = is_among net (ends_in r cone) || reads_in r.steps.items leading net

-- a walk stays, or has a first step
path_first : (steps : ℕ → List ℕ) (a b : ℕ) → Path steps a b → (a ≡ b) ⊎ ((x : ℕ) × ((is_among a (steps x) ≡ true) × Path steps x b))
path_first steps a b marks.Here = inl refl
path_first steps a b (marks.Onward {by = by} path step) = elim (path_first steps a by path) [
  | inl same ↦ inr (b, (ap (λ (k : ℕ). is_among k (steps b)) same ∙ step, marks.Here))
  | inr first ↦ inr (first.0, (first.1.0, marks.Onward first.1.1 step))
]

path_before : (steps : ℕ → List ℕ) (a x b : ℕ) → is_among a (steps x) ≡ true → Path steps x b → Path steps a b
path_before steps a x b step marks.Here = marks.Onward marks.Here step
path_before steps a x b step (marks.Onward {by = by} path last) = marks.Onward (path_before steps a x by step path) last

abbrev chosen_variable : Rig → Cone → List Bool → Variable → Bool
chosen_variable r cone leading (Cell c) = shown_in r.shows.items leading c
chosen_variable r cone leading (Port net) = if nat_lt net (length r.design.now.nets) then flag_at leading net else past_leads r cone leading net

pub variables_are : (r : Rig) (f : Fault) (cone : Cone) (leading shown : List Bool) → IsRig r → length r.steps.items ≡ length r.design.now.nets → AreBefore (search_in r f) (ends_in r cone) leading →
    ((c : ℕ) → c < length r.design.now.instances → flag_at shown c ≡ shown_in r.shows.items leading c) → AllByRecursion (λ net. net.0 < length r.design.now.nets) r.ports.items →
    cone.cells.items ≡ filter (λ cell. flag_at shown cell.0) r.cells.items → cone.ports.items ≡ filter (λ net. flag_at leading net.0) r.ports.items →
    walks.AreVariables (search_in r f) (cone_of cone).points (cone_of cone).variables
variables_are r f cone leading shown rig table before flags live cells ports =
    let s : Search = search_in r f in
    let chosen : Variable → Bool = chosen_variable r cone leading in
    record {
      chosen = chosen;
      are =
          (λ t. map (λ cell. Cell cell.0)
          ((cells ∙ filter_alike (λ (cell : InstanceId). cell.0 < length r.design.now.instances) (λ cell. flag_at shown cell.0) (λ cell. chosen (Cell cell.0)) r.cells.items rig.live (λ cell less. flags cell.0 less)
          ∙ ap (filter (λ cell. chosen (Cell cell.0))) rig.cells) t)
          ++ map (λ net. Port net.0)
          ((ports ∙ filter_alike (λ (net : NetId). net.0 < length r.design.now.nets) (λ net. flag_at leading net.0) (λ net. chosen (Port net.0)) r.ports.items live (λ net less. sym (port_live net.0 less))
          ∙ ap (filter (λ net. chosen (Port net.0))) rig.ports) t))
          ∙ sym (filter-append chosen (map (λ cell. Cell cell.0) (cells_in s)) (map (λ net. Port net.0) (drivable_ports s))
          ∙ (λ t. filter_mapped chosen (λ (cell : InstanceId). Cell cell.0) (cells_in s) t ++ filter_mapped chosen (λ (net : NetId). Port net.0) (drivable_ports s) t));
      sound = sound;
      whole = whole;
    }
  where
    points : List Point
    points = (cone_of cone).points

    port_live : (net : ℕ) → net < length r.design.now.nets → chosen_variable r cone leading (Port net) ≡ flag_at leading net
    port_live net less = ap (λ (b : Bool). if b then flag_at leading net else past_leads r cone leading net) (lt-ltb net (length r.design.now.nets) less)

    port_past : (net : ℕ) → length r.design.now.nets ≤ net → chosen_variable r cone leading (Port net) ≡ past_leads r cone leading net
    port_past net out = ap (λ (b : Bool). if b then flag_at leading net else past_leads r cone leading net) (le-ltb net (length r.design.now.nets) out)

    variable_from : (v : Variable) (net to : ℕ) → shows (search_in r f) v net ≡ true → is_among to (ends_in r cone) ≡ true → Walks (search_in r f) net to → IsVariable (search_in r f) points v
    variable_from v net to shown_v among walk =
        let found = ends_points r f cone.outputs.items cone.responses.items to rig among in
        record { net = net; shown = shown_v; place = found.place; point = found.point; reached = found.at; leads = record { to = to; ends = found.ends; walk = walk } }

    sound : (v : Variable) → chosen_variable r cone leading v ≡ true → IsVariable (search_in r f) points v
    sound (Cell c) is =
        let found = shown_net r.shows.items leading c is in
        let leads = before.sound found.0 found.1.0 in
        variable_from (Cell c) found.0 leads.to (sym (rig.shows found.0 c) ∙ found.1.1) leads.among leads.walk
    sound (Port net) is = elim (leb_tells (length r.design.now.nets) net) [
      | inl out ↦ elim (either_up (is_among net (ends_in r cone)) (reads_in r.steps.items leading net) (sym (port_past net out.1) ∙ is)) [
        | inl end ↦ variable_from (Port net) net net (eq-eqb net net refl) end walks.Here
        | inr read ↦ (let found = read_net r.steps.items leading net read in
            let leads = before.sound found.0 found.1.0 in
            variable_from (Port net) net leads.to (eq-eqb net net refl) leads.among
            (walk_of r f net leads.to rig (path_before (steps_at r.steps.items) net found.0 leads.to found.1.1 (path_of r f found.0 leads.to rig leads.walk))))
      ]
      | inr less ↦ (let leads = before.sound net (sym (port_live net less.1) ∙ is) in variable_from (Port net) net leads.to (eq-eqb net net refl) leads.among leads.walk)
    ]

    leads_in : (v : Variable) (is : IsVariable (search_in r f) points v) → LeadsIn (search_in r f) (ends_in r cone) is.net
    leads_in v is = record { to = is.leads.to; among = points_ends r f cone.outputs.items cone.responses.items is.place is.leads.to is.point rig is.reached is.leads.ends; walk = is.leads.walk }

    -- from a net past the end
    past_end : (net : ℕ) → LeadsIn (search_in r f) (ends_in r cone) net → past_leads r cone leading net ≡ true
    past_end net leads = elim (path_first (steps_at r.steps.items) net leads.to (path_of r f net leads.to rig leads.walk)) [
      | inl same ↦ ap (λ (b : Bool). b || reads_in r.steps.items leading net) (ap (λ (k : ℕ). is_among k (ends_in r cone)) same ∙ leads.among)
      | inr first ↦ (let less = step_live r net first.0 first.1.0 in
          or_right (is_among net (ends_in r cone)) (reads_in r.steps.items leading net)
          (net_read r.steps.items leading net first.0 (before.whole first.0 (omega (arith, less, table)) (record { to = leads.to; among = leads.among; walk = walk_of r f first.0 leads.to rig first.1.1 })) first.1.0))
    ]

    whole : (v : Variable) → IsVariable (search_in r f) points v → chosen_variable r cone leading v ≡ true
    whole (Cell c) is = elim (leb_tells (length r.design.now.nets) is.net) [
      | inl out ↦ absurd (true≢false (sym (rig.shows is.net c ∙ is.shown) ∙ ap (λ (o : Option InstanceId). shows_in o c) (get_or_past r.shows.items is.net None (let e = rig.shown in let past = out.1 in omega (arith, e, past)))))
      | inr less ↦ net_shown r.shows.items leading c is.net (before.whole is.net less.1 (leads_in (Cell c) is)) (rig.shows is.net c ∙ is.shown)
    ]
    whole (Port net) is =
        let same : is.net ≡ net = eqb-true is.net net is.shown in
        let leads : LeadsIn (search_in r f) (ends_in r cone) net = subst (LeadsIn (search_in r f) (ends_in r cone)) same (leads_in (Port net) is) in
        elim (leb_tells (length r.design.now.nets) net) [
          | inl out ↦ port_past net out.1 ∙ past_end net leads
          | inr less ↦ port_live net less.1 ∙ before.whole net less.1 leads
        ]

-- ---- the nets that are needed

-- a net that leads to an end is needed,
needed_at : (r : Rig) (f : Fault) (ends : List ℕ) (needed : List Bool) (net : ℕ) → AreBefore (search_in r f) ends needed → LeadsIn (search_in r f) ends net → is_needed needed net ≡ true
needed_at r f ends needed net before leads = elim (leb_tells (length r.design.now.nets) net) [
  | inl out ↦ get_or_past needed net true (let past = out.1 in let e = before.size in omega (arith, past, e))
  | inr less ↦ get_or_default needed net true false (let l = less.1 in let e = before.size in omega (arith, l, e)) ∙ before.whole net less.1 leads
]

-- and what is needed leads to an end, if it is a net of the design
needed_leads : (r : Rig) (f : Fault) (ends : List ℕ) (needed : List Bool) (net : ℕ) → AreBefore (search_in r f) ends needed → net < length r.design.now.nets → is_needed needed net ≡ true → LeadsIn (search_in r f) ends net
needed_leads r f ends needed net before less is = before.sound net (get_or_default needed net false true (let e = before.size in omega (arith, less, e)) ∙ is)

-- from where a walk goes on to a needed net, there is one
needed_steps : (r : Rig) (f : Fault) (ends : List ℕ) (needed : List Bool) (net from : ℕ) → IsRig r → AreBefore (search_in r f) ends needed → is_needed needed net ≡ true →
    is_among from (walked_from (search_in r f) (driver r.design.now net)) ≡ true → is_needed needed from ≡ true
needed_steps r f ends needed net from rig before is among =
    let step : is_among from (steps_at r.steps.items net) ≡ true = ap (is_among from) (steps_are r f net rig) ∙ among in
    let less : net < length r.design.now.nets = (let l = step_live r from net step in let e = rig.table in omega (arith, l, e)) in
    let leads = needed_leads r f ends needed net before less is in
    needed_at r f ends needed from before
    (record { to = leads.to; among = leads.among; walk = walk_of r f from leads.to rig (path_before (steps_at r.steps.items) from net leads.to step (path_of r f net leads.to rig leads.walk)) })

-- what holds of the nets of a list
all_nets : (P : ℕ → Type 0) (nets : List NetId) → ((k : ℕ) → is_among k (numbers_of nets) ≡ true → P k) → AllByRecursion (λ net. P net.0) nets
all_nets P [] each = tt
all_nets P (net ∷ nets) each = (each net.0 (among_here net.0 (numbers_of nets)), all_nets P nets (λ k is. each k (among_right k (net.0 ∷ []) (numbers_of nets) is)))

-- and of those at the pins of cells
all_pins : (r : Rig) (P : ℕ → Type 0) (cells : List InstanceId) → IsRig r → ((k : ℕ) → is_among k (flat_map (λ cell. taken_by (pins_at r.pins.items cell.0)) cells) ≡ true → P k) →
    AllByRecursion (λ cell. (from : ℕ) → is_among from (taken_nets r.design.now cell.0) ≡ true → P from) cells
all_pins r P [] rig each = tt
all_pins r P (c ∷ cells) rig each =
    let rest : List ℕ = flat_map (λ cell. taken_by (pins_at r.pins.items cell.0)) cells in (
      λ from is. each from (among_left from (taken_by (pins_at r.pins.items c.0)) rest (ap (is_among from) (taken_kept r.design.now c.0 (pins_at r.pins.items c.0) (rig.pins.each c.0)) ∙ is)),
      all_pins r P cells rig (λ k is. each k (among_right k (taken_by (pins_at r.pins.items c.0)) rest is)),
    )

-- there is no point, or a first one, which is chosen
first_point : (chosen : Point → Bool) (points : List Point) → AllByRecursion (λ p. chosen p ≡ true) points → (points ≡ []) ⊎ ((p : Point) × ((slice_get points 0 ≡ Some p) × (chosen p ≡ true)))
first_point chosen [] all = inl refl
first_point chosen (p ∷ points) all = inr (p, (refl, all.0))

pub needed_are : (r : Rig) (f : Fault) (cone : Cone) → IsRig r → AreBefore (search_in r f) (ends_in r cone) cone.needed.items → walks.AreReached (search_in r f) (cone_of cone).points → AreNeeded r f cone
needed_are r f cone rig before reached =
    let s : Search = search_in r f in
    let ends : List ℕ = ends_in r cone in
    let needed : List Bool = cone.needed.items in
    let taken : List ℕ = flat_map (λ cell. taken_by (pins_at r.pins.items cell.0)) cone.responses.items in
    let at_end : (k : ℕ) → is_among k ends ≡ true → is_needed needed k ≡ true = λ k is. needed_at r f ends needed k before (record { to = k; among = is; walk = walks.Here }) in
    record {
      steps = λ net from is among. needed_steps r f ends needed net from rig before is among;
      outputs = all_nets (λ k. is_needed needed k ≡ true) cone.outputs.items (λ k is. at_end k (among_left k (numbers_of cone.outputs.items) taken is));
      responses = all_pins r (λ k. is_needed needed k ≡ true) cone.responses.items rig (λ k is. at_end k (among_right k (numbers_of cone.outputs.items) taken is));
      site = elim (first_point reached.chosen (cone_of cone).points (subst (AllByRecursion (λ p. reached.chosen p ≡ true)) (sym reached.are) (all_chosen reached.chosen (points_of s)))) [
        | inl none ↦ inl none
        | inr first ↦ (let is = reached.sound first.0 first.1.1 in
            inr (needed_at r f ends needed f.net.0 before
            (record { to = is.to; among = points_ends r f cone.outputs.items cone.responses.items 0 is.to first.0 rig first.1.0 is.ends; walk = is.walk })))
      ];
    }
