-- The lanes before this one have their faults.
use Rattle.std.proofs.Common.{length}
use Rattle.dft_fault_lanes.proofs.StickLemmas.{Sticking}
use Rattle.dft_fault_lanes.proofs.clamps.stick.Given as goal

abbrev pub invariant-loop-lane : goal.invariant-loop-lane
invariant-loop-lane l = Sticking l.faults l.clamps (length l.fn.clamps) l.lane
