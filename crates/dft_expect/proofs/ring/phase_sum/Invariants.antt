-- The sum of the stages so far, and of the rest.
use Rattle.std.proofs.Common.{◌≡◌, drop}
use Rattle.dft_base.specs.Solutions.{bit_at, xor}
use Rattle.dft_config.specs.Ring.{sum_of}
use Rattle.dft_expect.proofs.ring.phase_sum.Given as goal

abbrev pub invariant-loop-stage : goal.invariant-loop-stage
invariant-loop-stage l = xor l.sum (sum_of (bit_at l.state) (drop l.stage-index l.stages)) ≡ sum_of (bit_at l.state) l.stages
