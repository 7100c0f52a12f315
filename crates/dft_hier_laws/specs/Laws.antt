-- Flat designs do what their modules do side by side: settled assignments, read by path, the whole logic, and runs.
use Rattle.std.specs.Prelude.{◌≡◌, ◌↔◌, ℕ, ◌≤◌, Bool, List, length, Some, slice_get}
use Rattle.dft_cells.specs.declared.cell.Cell.{Cell}
use Rattle.dft_netlist.specs.Netlist.{Netlist}
use Rattle.dft_behavior.specs.Logic.{Ports, Logic, logic_of}
use Rattle.dft_behavior.specs.Runs.{Now, Vector, Turn, IsRun}
use Rattle.dft_behavior.specs.Settled.{Sources, IsSettled}
use Rattle.dft_modules.specs.Modules.{Module}
use Rattle.dft_modules.specs.Sound.{AreModules}
use Rattle.dft_hier.specs.Paths.{Path, Spot, net_spots, instance_spots}
use Rattle.dft_hier.specs.Refusals.{IsFlat}
use Rattle.dft_hier_laws.specs.Joined.{JoinedSources, IsJoinedSettled}
use Rattle.dft_hier_laws.specs.JoinedLogic.{IsJoinedLogic, IsJoinedRun}

-- what the flat design's bits come from is, read by path, what the joined ones come from
pub record AreByPath (ms : List Module) (top : Module) (flat : Sources) (joined : JoinedSources) : Type 0 where
  pub ports : (net : ℕ) → joined.ports net ≡ flat.ports net
  pub high : (net : ℕ) → joined.high net ≡ flat.high net
  pub flops : (number : ℕ) (spot : Spot) → slice_get (instance_spots ms top) number ≡ Some spot → joined.flops spot.path spot.at ≡ flat.flops number
  pub free : (number : ℕ) (spot : Spot) → slice_get (net_spots ms top) number ≡ Some spot → joined.free spot.path spot.at ≡ flat.free number
  pub loose : (number : ℕ) (spot : Spot) (pin : ℕ) → slice_get (instance_spots ms top) number ≡ Some spot → joined.loose spot.path spot.at pin ≡ flat.loose number pin

-- an assignment of the flat design is, read by path, a joined one
abbrev pub ReadsByPath : List Module → (top : Module) → (flat : ℕ → Bool) → (joined : Path → ℕ → Bool) → Type 0
ReadsByPath ms top flat joined = (number : ℕ) (spot : Spot) → slice_get (net_spots ms top) number ≡ Some spot → joined spot.path spot.at ≡ flat number

-- past the last net, bits are free
abbrev pub IsFreePast : Netlist → Sources → (bits : ℕ → Bool) → Type 0
IsFreePast design s bits = (net : ℕ) → length design.nets ≤ net → bits net ≡ s.free net

-- The settled assignments of the flat design, read by path, are the settled joined ones, for all ports, states, levels of clocks, held and free bits.
abbrev pub FlatIsJoined : Type 0
FlatIsJoined =
    (ms : List Module) (library : List Cell) (design : Netlist) → AreModules library ms → (flat : IsFlat ms library design) (ports : Ports) (s : Sources) (j : JoinedSources) (bits : ℕ → Bool) (joined : Path → ℕ → Bool) →
    AreByPath ms flat.top s j → ReadsByPath ms flat.top bits joined → IsFreePast design s bits →
    (IsSettled (logic_of design ports) s bits ↔ IsJoinedSettled ms library flat.top ports j joined)

-- What the flat design does is what the joined modules do: what each net means, and of each flip-flop and lock-up the clock and its edge, what it
-- takes and what forces it, for all ports. There is one such logic.
abbrev pub FlatLogicIsJoined : Type 0
FlatLogicIsJoined =
    (ms : List Module) (library : List Cell) (design : Netlist) → AreModules library ms → (flat : IsFlat ms library design) (ports : Ports) (l : Logic) →
    (l ≡ logic_of design ports ↔ IsJoinedLogic ms library flat.top ports l)

-- The runs of the flat design are those of the joined modules.
abbrev pub FlatRunsAreJoined : Type 0
FlatRunsAreJoined =
    (ms : List Module) (library : List Cell) (design : Netlist) → AreModules library ms → (flat : IsFlat ms library design) (ports : Ports) (xs : List Vector) (start : Now) (ts : List Turn) →
    (IsRun (logic_of design ports) xs start ts ↔ IsJoinedRun ms library flat.top ports xs start ts)
