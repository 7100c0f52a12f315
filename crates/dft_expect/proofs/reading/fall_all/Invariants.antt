-- What is captured so far; the others are as before.
use Rattle.std.proofs.Common.{◌+◌}
use Rattle.dft_evaluator.specs.Evaluations.{value_at}
use Rattle.dft_expect.specs.Capturing.{HasPulsed}
use Rattle.dft_expect.proofs.ReadLemmas.{AreUpTo}
use Rattle.dft_expect.proofs.reading.fall_all.Given as goal

abbrev pub invariant-loop-place : goal.invariant-loop-place
invariant-loop-place l = AreUpTo (λ p pattern r. HasPulsed l.fixed.design.now l.fixed.config.now pattern (l.vector + 1) r (value_at l.evaluator p)) l.patterns l.place l.initial.responses l.responses
