use Rattle.dft_hier.proofs.LiveSteps.{ListsSoFar}
use Rattle.dft_hier.proofs.weights.all_live_items.Given as goal

abbrev pub invariant-loop-number : goal.invariant-loop-number
invariant-loop-number l = ListsSoFar l.modules l.children l.weights l.number l.all.items
