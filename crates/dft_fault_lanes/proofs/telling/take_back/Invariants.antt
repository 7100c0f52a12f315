-- What is told of the faults before this one is taken back where it must be.
use Rattle.dft_fault_lanes.proofs.TellingLemmas.{TakingBack}
use Rattle.dft_fault_lanes.proofs.telling.take_back.Given as goal

abbrev pub invariant-loop-place : goal.invariant-loop-place
invariant-loop-place l = TakingBack l.faults l.control l.fn.found l.found l.place
