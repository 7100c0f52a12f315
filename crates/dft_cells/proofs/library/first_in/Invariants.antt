-- No cell so far has the kind.
use Rattle.dft_cells.specs.Cells.{NoneBefore}
use Rattle.dft_cells.proofs.library.first_in.Given as goal

abbrev pub invariant-loop-place : goal.invariant-loop-place
invariant-loop-place l = NoneBefore l.cells l.kind l.place
