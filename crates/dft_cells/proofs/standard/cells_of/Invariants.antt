-- The cells so far are those of the first rows.
use Rattle.std.proofs.Common.{◌≡◌, map, take}
use Rattle.dft_cells.specs.Rows.{cell_of}
use Rattle.dft_cells.proofs.standard.cells_of.Given as goal

abbrev pub invariant-loop-row : goal.invariant-loop-row
invariant-loop-row l = l.cells.items ≡ map cell_of (take l.row-index l.rows)
