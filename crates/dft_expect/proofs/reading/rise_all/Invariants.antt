-- What has risen so far; the others are as before.
use Rattle.std.proofs.Common.{slice_get}
use Rattle.dft_evaluator.specs.Evaluations.{value_at}
use Rattle.dft_expect.specs.Captures.{captured_domains}
use Rattle.dft_expect.specs.Capturing.{IsRisenIn}
use Rattle.dft_expect.proofs.ReadLemmas.{AreUpTo}
use Rattle.dft_expect.proofs.reading.rise_all.Given as goal

abbrev pub invariant-loop-place : goal.invariant-loop-place
invariant-loop-place l =
    AreUpTo (λ p pattern r. IsRisenIn l.fixed.design.now l.fixed.config.now pattern l.vector (slice_get (captured_domains pattern.merged.now) l.vector) r (value_at l.evaluator p)) l.patterns l.place l.initial.responses l.responses
