-- The responses so far.
use Rattle.std.proofs.Common.{◌≡◌, ℕ, length, slice_get, Some}
use Rattle.dft_expect.specs.declared.pattern.Pattern.{Pattern}
use Rattle.dft_expect.specs.declared.response.Response.{Response}
use Rattle.dft_expect.specs.Capturing.{CapturedBehind}
use Rattle.dft_expect.proofs.reading.begin_all.Given as goal

abbrev pub invariant-loop-place : goal.invariant-loop-place
invariant-loop-place l = record {
  count : length l.responses.items ≡ l.place;
  each : (p : ℕ) (pattern : Pattern) (r : Response) → slice_get l.patterns p ≡ Some pattern → slice_get l.responses.items p ≡ Some r → CapturedBehind l.fixed.design.now l.fixed.config.now pattern 0 r;
}
