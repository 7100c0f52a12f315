use Rattle.dft_stitch.specs.Tables.{Noted}
use Rattle.dft_stitch.proofs.table.note_cells.Given as goal

abbrev pub invariant-loop-place : goal.invariant-loop-place
invariant-loop-place l = Noted l.fn.chain l.cells l.place l.initial.places l.places
