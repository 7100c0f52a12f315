-- The cone of a fault as the search keeps it, and the marks by which it is found.
use Rattle.std.specs.Prelude.{ℕ, Bool, true, false, ◌≡◌, ◌<◌, ◌&&◌, ◌||◌, ◌⊎◌, List, [], ◌∷◌, ◌++◌, Option, map, length}
use Rattle.std.specs.List.{AllByRecursion}
use Rattle.dft_netlist.specs.declared.ids.InstanceId.{InstanceId}
use Rattle.dft_netlist.specs.Drivers.{driver}
use Rattle.dft_netlist.specs.Orders as orders
use Rattle.dft_netlist.specs.Orders.{numbers_of}
use Rattle.dft_logic.specs.Circuit.{flag_at}
use Rattle.dft_sweep.specs.Fields.{is_needed}
use Rattle.dft_faults.specs.declared.fault.Fault.{Fault}
use Rattle.dft_seek.specs.Searches.{Search, Output, Response, takes_at}
use Rattle.dft_seek.specs.Walks as walks
use Rattle.dft_seek.specs.Walks.{Cell, Port, Walks, is_among, taken_nets, walked_from}
use Rattle.dft_seek.specs.Rigs.{search_in, search_of, shows_in}
use Rattle.dft_seek.specs.declared.cones.Cone.{Cone}
use Rattle.dft_seek.specs.declared.rig.Rig.{Rig}

-- the points and the variables
abbrev pub cone_of : Cone → walks.Cone
cone_of c = record {
  points = map (λ net. Output net.0) c.outputs.items ++ map (λ cell. Response cell.0) c.responses.items;
  variables = map (λ cell. Cell cell.0) c.cells.items ++ map (λ net. Port net.0) c.ports.items;
}

-- no variable stands twice, and ports are there
pub record AreOnce (r : Rig) (cone : Cone) : Type 0 where
  pub cells : orders.AreOnce (map (λ cell. cell.0) cone.cells.items)
  pub ports : orders.AreOnce (numbers_of cone.ports.items)
  pub live : AllByRecursion (λ net. net.0 < length r.design.now.nets) cone.ports.items

-- each of these cells takes its next value at the rise or at the fall
abbrev pub AreTaking : Rig → List InstanceId → Type 0
AreTaking r cells = AllByRecursion (λ cell. (takes_at (search_of r) false cell.0 || takes_at (search_of r) true cell.0) ≡ true) cells

-- whether a marked net shows a flip-flop, by what nets show in turn
abbrev pub shown_in : List (Option InstanceId) → (marked : List Bool) → (cell : ℕ) → Bool
shown_in [] marked c = false
shown_in (shown ∷ shows) [] c = false
shown_in (shown ∷ shows) (flag ∷ flags) c = (flag && shows_in shown c) || shown_in shows flags c

-- exactly the nets are marked to which a walk leads from this one
pub record AreBehind (s : Search) (from : ℕ) (marked : List Bool) : Type 0 where
  pub size : length marked ≡ length s.design.nets
  pub sound : (net : ℕ) → flag_at marked net ≡ true → Walks s from net
  pub whole : (net : ℕ) → Walks s from net → flag_at marked net ≡ true

-- a walk leads from the net to one of these
pub record LeadsIn (s : Search) (ends : List ℕ) (net : ℕ) : Type 0 where
  pub to : ℕ
  pub among : is_among to ends ≡ true
  pub walk : Walks s net to

-- exactly those nets of the design are marked from which a walk leads to one of these
pub record AreBefore (s : Search) (ends : List ℕ) (marked : List Bool) : Type 0 where
  pub size : length marked ≡ length s.design.nets
  pub sound : (net : ℕ) → flag_at marked net ≡ true → LeadsIn s ends net
  pub whole : (net : ℕ) → net < length s.design.nets → LeadsIn s ends net → flag_at marked net ≡ true

-- Needed are the nets from which a walk goes on to a needed one, the nets of the points, and the stuck one where there is a point.
pub record AreNeeded (r : Rig) (f : Fault) (cone : Cone) : Type 0 where
  pub steps : (net from : ℕ) → is_needed cone.needed.items net ≡ true → is_among from (walked_from (search_in r f) (driver r.design.now net)) ≡ true → is_needed cone.needed.items from ≡ true
  pub outputs : AllByRecursion (λ net. is_needed cone.needed.items net.0 ≡ true) cone.outputs.items
  pub responses : AllByRecursion (λ cell. (from : ℕ) → is_among from (taken_nets r.design.now cell.0) ≡ true → is_needed cone.needed.items from ≡ true) cone.responses.items
  pub site : ((cone_of cone).points ≡ []) ⊎ (is_needed cone.needed.items f.net.0 ≡ true)
