-- What is told is written at places of the group.
use Rattle.dft_fault_lanes.specs.Gathers.{AreWritten}
use Rattle.dft_fault_lanes.proofs.gathering.write_back.Given as goal

abbrev pub invariant-loop-lane : goal.invariant-loop-lane
invariant-loop-lane l = AreWritten l.places l.told l.fn.found l.found
