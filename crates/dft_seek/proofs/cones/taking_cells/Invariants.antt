-- Those of the first ones.
use Rattle.std.proofs.Common.{◌≡◌, filter, take}
use Rattle.std.specs.List.{list_any}
use Rattle.dft_logic.specs.Circuit.{flag_at}
use Rattle.dft_seek.specs.Pins.{pins_at, taken_by}
use Rattle.dft_seek.proofs.cones.taking_cells.Given as goal

abbrev pub invariant-loop-cell : goal.invariant-loop-cell
invariant-loop-cell l = l.left.items ≡ filter (λ cell. list_any (flag_at l.marked) (taken_by (pins_at l.pins cell.0))) (take l.cell-index l.cells)
