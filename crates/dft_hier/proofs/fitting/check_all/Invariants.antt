use Rattle.dft_hier.proofs.FitLemmas.{MisfitsSoFar}
use Rattle.dft_hier.proofs.fitting.check_all.Given as goal

abbrev pub invariant-loop-number : goal.invariant-loop-number
invariant-loop-number l = MisfitsSoFar l.modules l.number
