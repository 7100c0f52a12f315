-- Those of the first ones.
use Rattle.std.proofs.Common.{◌≡◌, filter, take}
use Rattle.std.specs.Prelude.{◌||◌}
use Rattle.dft_logic.specs.Circuit.{flag_at}
use Rattle.dft_seek.proofs.tables.flagged_cells.Given as goal

abbrev pub invariant-loop-cell : goal.invariant-loop-cell
invariant-loop-cell l = l.flagged.items ≡ filter (λ cell. flag_at l.one cell.0 || flag_at l.other cell.0) (take l.cell-index l.cells)
