-- The flags before this one are down.
use Rattle.dft_fault_lanes.proofs.InputLemmas.{LoweredTo}
use Rattle.dft_fault_lanes.proofs.vectors.lower.Given as goal

abbrev pub invariant-loop-place : goal.invariant-loop-place
invariant-loop-place l = LoweredTo l.flags l.place
