use Rattle.dft_patterns.proofs.SteadyLemmas.{Flagged}
use Rattle.dft_patterns.proofs.steadiness.flag_pulses.Given as goal

abbrev pub invariant-loop-signal : goal.invariant-loop-signal
invariant-loop-signal l = Flagged l.acts l.initial.flags l.flags l.signal
