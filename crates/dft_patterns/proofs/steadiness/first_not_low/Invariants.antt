use Rattle.std.proofs.Common.{◌≡◌, drop, get_or, false}
use Rattle.dft_patterns.specs.Steadiness as spec
use Rattle.dft_patterns.proofs.steadiness.first_not_low.Given as goal

abbrev pub invariant-loop-signal : goal.invariant-loop-signal
invariant-loop-signal l =
    spec.first_not_low (λ signal. get_or l.flags signal false) l.signal (drop l.signal l.acts) ≡ spec.first_not_low (λ signal. get_or l.flags signal false) 0 l.acts
