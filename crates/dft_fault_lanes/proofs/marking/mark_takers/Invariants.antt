-- What the cells before this one read is marked.
use Rattle.dft_fault_lanes.specs.Moves.{is_carried}
use Rattle.dft_fault_lanes.proofs.MarkLemmas.{Taking}
use Rattle.dft_fault_lanes.proofs.marking.mark_takers.Given as goal

abbrev pub invariant-loop-place : goal.invariant-loop-place
invariant-loop-place l = Taking l.flops l.steer (is_carried l.cells.layout l.moves) l.initial.marked l.marked l.place
