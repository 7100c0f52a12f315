-- The copies so far are those of the first cells.
use Rattle.std.proofs.Common.{◌≡◌, take}
use Rattle.dft_cells.proofs.library.Library.copy.Given as goal

abbrev pub invariant-loop-cell : goal.invariant-loop-cell
invariant-loop-cell l = l.cells.items ≡ take l.cell-index l.self
