-- What made instances do in a finished netlist.
use Rattle.std.specs.Prelude.{ℕ, ◌<◌, ◌≡◌, Bool, true, false, IsTrue, List, [], ◌∷◌, ◌++◌, length, map, None, Some}
use Rattle.dft_cells.specs.declared.kind.Gate.{Gate as GateKind}
use Rattle.dft_cells.specs.declared.kind.Gate.TheVariants.{Inv}
use Rattle.dft_cells.specs.WellFormed.{IsWellFormed}
use Rattle.dft_netlist.specs.declared.ids.NetId.{NetId}
use Rattle.dft_netlist.specs.declared.instance.Signal.TheVariants as signal
use Rattle.dft_netlist.specs.declared.instance.CellRef.TheVariants.{Library}
use Rattle.dft_netlist.specs.declared.instance.CellRef.TheVariants as cell_ref
use Rattle.dft_behavior.specs.ClockRoots.{clock_root_of}
use Rattle.dft_netlist.specs.Drivers.{Source, Net, Input, driver}
use Rattle.dft_cells.specs.FlipFlops.{no_forces}
use Rattle.dft_behavior.specs.Logic.{Logic, Ports, Cell, Gate, Flop, Lockup, plain, logic_of}
use Rattle.dft_netlist.specs.Netlist.{Netlist}
use Rattle.dft_netlist.specs.NetDrivers.{IsSingle}
use Rattle.dft_netlist.specs.Sound.{is_primitive}
use Rattle.dft_parts.specs.Cells.{is_dff, is_lockup, first_cell, pins_between}
use Rattle.dft_parts.specs.Growth.{Stands}
use Rattle.dft_parts.specs.Recipes.{at_nets}

abbrev pub sources_at : List NetId → List Source
sources_at nets = map (λ net. Net net.0) nets

-- a net is the bit of a clock port
pub record IsClockNet (n : Netlist) (ports : Ports) (net : ℕ) : Type 0 where
  pub input : driver n net ≡ Input
  pub clock : ports.is_clock net ≡ true

-- a net shows the bit of a clock port, or its inverse
pub record IsClockedBy (n : Netlist) (ports : Ports) (net port : ℕ) (inverted : Bool) : Type 0 where
  pub root : clock_root_of n (Net net) ≡ Some (record { port = port; inverted = inverted })
  pub clock : ports.is_clock port ≡ true

-- a modelled flip-flop without scan and reset: its domain, and the net that it takes
abbrev pub plain_cell : (clock input : ℕ) → Cell
plain_cell clock input = record { domain = clock; falling = false; takes = plain (Net input); forces = no_forces }

-- a flip-flop shows its bit at one net, and takes the bit of another
pub record IsFlop (l : Logic) (clock flop output input : ℕ) : Type 0 where
  pub cell : l.cell flop ≡ plain_cell clock input
  pub net : l.net output ≡ Flop flop false

-- A made gate drives its net from its inputs.
abbrev pub GateStands : Type 0
GateStands =
    (n : Netlist) (ports : Ports) (number : ℕ) (kind : GateKind) (inputs : List NetId) (output : NetId) → IsSingle n → IsTrue (is_primitive kind) →
    Stands n number (cell_ref.Gate kind (length inputs)) (at_nets inputs ++ signal.Net output ∷ []) → (logic_of n ports).net output.0 ≡ Gate kind (sources_at inputs)

-- A made flip-flop on a clock port takes its input and shows its bit.
abbrev pub FlopStands : Type 0
FlopStands =
    (n : Netlist) (ports : Ports) (number : ℕ) (clock input output : NetId) → IsSingle n → IsWellFormed n.library → IsClockNet n ports clock.0 →
    Stands n number (Library (first_cell is_dff n.library)) (pins_between n.library (first_cell is_dff n.library) clock input output) → IsFlop (logic_of n ports) clock.0 number output.0 input.0

-- A clock port shows its own bit.
abbrev pub PortShowsItself : Type 0
PortShowsItself = (n : Netlist) (ports : Ports) (net : ℕ) → IsClockNet n ports net → IsClockedBy n ports net net false

-- A made `not` of a clock port shows its inverse.
abbrev pub InverseStands : Type 0
InverseStands =
    (n : Netlist) (ports : Ports) (number : ℕ) (port output : NetId) → IsSingle n → port.0 < length n.nets → IsClockNet n ports port.0 →
    Stands n number (cell_ref.Gate Inv 1) (at_nets (port ∷ []) ++ signal.Net output ∷ []) → IsClockedBy n ports output.0 port.0 true

-- A made lock-up on a net that shows a clock port, or its inverse, holds its input: it is high where the net shows the inverse.
abbrev pub LockupStands : Type 0
LockupStands =
    (n : Netlist) (ports : Ports) (number : ℕ) (clock input output : NetId) (port : ℕ) (inverted : Bool) → IsSingle n → IsWellFormed n.library → IsClockedBy n ports clock.0 port inverted →
    Stands n number (Library (first_cell is_lockup n.library)) (pins_between n.library (first_cell is_lockup n.library) clock input output) →
    (logic_of n ports).net output.0 ≡ Lockup number port inverted (Net input.0)
