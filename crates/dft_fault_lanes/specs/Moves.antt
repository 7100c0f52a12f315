-- Registers that move as the clocks rise: each cell but the first takes the value of the one before it.
use Rattle.std.specs.Prelude.{ℕ, Bool, true, ◌≡◌, ◌<◌, ◌⊎◌, ◌&&◌, nat_lt, List, [], ◌∷◌, Option, None, Some, length}
use Rattle.dft_base.specs.declared.tri.Tri.{Tri}
use Rattle.dft_base.specs.declared.tri.Tri.TheVariants.{One}
use Rattle.dft_cells.specs.FlipFlops.{Scan, no_forces, tri_forced_by}
use Rattle.dft_netlist.specs.Drivers.{Source, Net, Tied, Loose, nets_of}
use Rattle.dft_behavior.specs.Logic.{Cell}
use Rattle.dft_registers.specs.Layout.{Layout, place_at, cells_at}
use Rattle.dft_registers.specs.Cells.{Course, Rests, Enters, Follows, course_from}
use Rattle.dft_logic.specs.declared.circuit.FlipFlop.{FlipFlop}
use Rattle.dft_logic.specs.declared.circuit.Op.{Op}
use Rattle.dft_netlist.specs.Orders.{Has}
use Rattle.dft_logic.specs.Values.{value_at}
use Rattle.dft_logic.specs.Circuit.{flag_at, force_nets}
use Rattle.dft_fault_lanes.specs.declared.clamps.Clamp.{Clamp}
use Rattle.dft_fault_lanes.specs.declared.marking.Steer.{Steer}
use Rattle.dft_fault_lanes.specs.Lanes.{flop_at, is_changed}
use Rattle.dft_fault_lanes.specs.Seen.{cell_shown}

-- whether a cell is moved with its register, so that it has the value of the one before it
abbrev pub is_carried : Layout → (moves : List Bool) → (cell : ℕ) → Bool
is_carried l moves c = flag_at moves (place_at l.places c).register && nat_lt 0 (place_at l.places c).index

-- what is read at a pin is the bit of a cell
abbrev pub ShowsCell : List Op → List (Option Clamp) → Source → (cell : ℕ) → Type 0
ShowsCell ops clamps (Net net) cell = cell_shown ops clamps net ≡ Some cell
ShowsCell ops clamps (Tied bit) cell = ⊥
ShowsCell ops clamps (Loose i pin) cell = ⊥

-- A cell takes the value of another one: its scan enable is the steer's net, which is 1, its scan input is the bit of the other cell, and no reset or set acts on it.
pub record TakesFrom (ops : List Op) (clamps : List (Option Clamp)) (s : Steer) (cell : Cell) (other : ℕ) : Type 0 where
  pub steered : s.value ≡ One
  pub loose : (cell.forces ≡ no_forces) ⊎ (s.free ≡ true)
  pub scan : Scan Source
  pub pins : cell.takes.scan ≡ Some scan
  pub enable : scan.enable ≡ Net s.net.0
  pub input : ShowsCell ops clamps scan.input other

abbrev pub IsMoved : List Op → List (Option Clamp) → Steer → Cell → Course → Type 0
IsMoved ops clamps s cell Rests = Unit {0}
IsMoved ops clamps s cell Enters = Unit {0}
IsMoved ops clamps s cell (Follows other) = TakesFrom ops clamps s cell other

-- where the register of a cell moves, the cell takes a value, and but for the first it is that of the one before it
abbrev pub MovesAt : List Op → List (Option Clamp) → Steer → (pulsed : List Bool) → Layout → Cell → (c : ℕ) → Type 0
MovesAt ops clamps s pulsed l cell c =
    (is_changed cell true pulsed ≡ true) × IsMoved ops clamps s cell (course_from (cells_at l.registers (place_at l.places c).register) (place_at l.places c).index)

abbrev pub AreMoves : List Op → List (Option Clamp) → List FlipFlop → Steer → (pulsed : List Bool) → Layout → (moves : List Bool) → Type 0
AreMoves ops clamps flops s pulsed l moves =
    (c : ℕ) → c < length flops → flag_at moves (place_at l.places c).register ≡ true → MovesAt ops clamps s pulsed l (flop_at flops c) c

-- the net of a cell's scan enable
abbrev pub enable_of : Option (Scan Source) → List ℕ
enable_of None = []
enable_of (Some scan) = nets_of (scan.enable ∷ [])

abbrev pub enable_needs : Cell → List ℕ
enable_needs cell = enable_of cell.takes.scan

-- no reset or set acts where ports have these values
abbrev pub NoneActs : List FlipFlop → (ports : List Tri) → Type 0
NoneActs flops ports = (c : ℕ) → c < length flops → (t : Tri) → tri_forced_by (flop_at flops c).forces (value_at ports) t ≡ t

-- a list has the ports of all resets and sets
abbrev pub HasForces : List FlipFlop → (forces : List ℕ) → Type 0
HasForces flops forces = (c port : ℕ) → c < length flops → Has (force_nets (flop_at flops c).forces) port → Has forces port
