-- What is told is so.
use Rattle.dft_fault_lanes.specs.Gathers.{AreTold}
use Rattle.dft_fault_lanes.proofs.gathering.tell_all.Given as goal

abbrev pub invariant-loop-group : goal.invariant-loop-group
invariant-loop-group l = AreTold l.design l.patterns l.faults l.found
