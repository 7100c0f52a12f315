use Rattle.dft_hier.proofs.WeightLemmas.{WeighedSoFar}
use Rattle.dft_hier.proofs.weights.weights.Given as goal

abbrev pub invariant-loop-number : goal.invariant-loop-number
invariant-loop-number l = WeighedSoFar l.modules l.children l.order l.number-index l.weights.items
