-- The ports before this one are 1.
use Rattle.dft_fault_lanes.proofs.PlanLemmas.{OnesTo}
use Rattle.dft_fault_lanes.proofs.forces.are_ones.Given as goal

abbrev pub invariant-loop-net : goal.invariant-loop-net
invariant-loop-net l = OnesTo l.forces l.ports l.net-index
