use Rattle.std.proofs.Common.{drop}
use Rattle.dft_patterns.proofs.SteadyLemmas.{AreFlagged}
use Rattle.dft_patterns.proofs.steadiness.pulse_flags.Given as goal

abbrev pub invariant-loop-acts : goal.invariant-loop-acts
invariant-loop-acts l = AreFlagged l.count l.vectors (drop l.acts-index l.vectors) l.flags.items
