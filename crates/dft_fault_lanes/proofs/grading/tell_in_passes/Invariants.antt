-- What is told is so.
use Rattle.dft_fault_lanes.specs.Gathers.{AreTold}
use Rattle.dft_fault_lanes.proofs.grading.tell_in_passes.Given as goal

abbrev pub invariant-loop-part : goal.invariant-loop-part
invariant-loop-part l = AreTold l.design l.patterns l.faults l.found.items
