-- The lanes before this one are marked.
use Rattle.dft_evaluator.specs.Wides.{value_in}
use Rattle.dft_fault_lanes.specs.Compares.{is_one}
use Rattle.dft_fault_lanes.proofs.CompareLemmas.{Marking}
use Rattle.dft_fault_lanes.proofs.comparing.mark.Given as goal

abbrev pub invariant-loop-lane : goal.invariant-loop-lane
invariant-loop-lane l = Marking l.grade (λ lane. is_one (value_in l.hit lane)) l.fn.live l.fn.found l.live l.found l.lane
