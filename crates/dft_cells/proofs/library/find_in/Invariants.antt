-- The rest of the cells gives what all of them give.
use Rattle.std.proofs.Common.{◌≡◌, drop}
use Rattle.dft_cells.specs.Cells.{find_from, find_cell}
use Rattle.dft_cells.proofs.library.find_in.Given as goal

abbrev pub invariant-loop-place : goal.invariant-loop-place
invariant-loop-place l = find_cell l.cells l.name ≡ find_from l.place (drop l.place l.cells) l.name
