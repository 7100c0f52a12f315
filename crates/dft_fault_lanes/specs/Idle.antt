-- Cells that read nothing, as those of instances that store no bit: they can be anything, at first and whatever they take.
use Rattle.std.specs.Prelude.{ℕ, Bool, true, false, ◌≡◌, ◌<◌, ◌==◌, ◌&&◌, ◌||◌, List, Option, None, Some, if◌then◌else◌}
use Rattle.dft_base.specs.declared.tri.Tri.TheVariants.{Unknown}
use Rattle.dft_lanes.specs.declared.wide.Wide.{Wide}
use Rattle.dft_cells.specs.FlipFlops.{Scan}
use Rattle.dft_netlist.specs.Drivers.{Source, Net, Tied, Loose}
use Rattle.dft_behavior.specs.Logic.{Cell}
use Rattle.dft_registers.specs.Layout.{Layout, place_at}
use Rattle.dft_logic.specs.declared.circuit.FlipFlop.{FlipFlop}
use Rattle.dft_evaluator.specs.Wides.{values_in}
use Rattle.dft_takings.specs.Takings.{is_unforced}
use Rattle.dft_fault_lanes.specs.Lanes.{flop_at}
use Rattle.dft_fault_lanes.specs.Moves.{is_carried}

-- nothing is joined to a pin
abbrev pub is_loose : Source → Bool
is_loose (Net net) = false
is_loose (Tied bit) = false
is_loose (Loose i pin) = true

abbrev pub is_unscanned : Option (Scan Source) → Bool
is_unscanned None = true
is_unscanned (Some scan) = false

-- a cell that takes nothing at a fall, has no reset, set or scan pins, and whose data input is joined to nothing
abbrev pub is_idle : Cell → Bool
is_idle cell = (if cell.falling then false else is_loose cell.takes.input) && (is_unscanned cell.takes.scan && is_unforced cell.forces)

-- whether a cell need not be looked at as clocks rise or fall: it is carried, or it is idle and lies in no register
abbrev pub is_left : Layout → (moves : List Bool) → List FlipFlop → (cell : ℕ) → Bool
is_left l moves flops c = is_carried l moves c || (is_idle (flop_at flops c) && (place_at l.places c).register == 0)

-- idle cells can be anything in each lane
abbrev pub AreIdleUnknown : List FlipFlop → List Wide → Type 0
AreIdleUnknown flops values = (lane c : ℕ) → lane < 512 → is_idle (flop_at flops c) ≡ true → values_in values lane c ≡ Unknown
