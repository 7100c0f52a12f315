use Rattle.dft_hier.proofs.LiveSteps.{LiveSoFar}
use Rattle.dft_hier.proofs.weights.live_items.Given as goal

abbrev pub invariant-loop-place : goal.invariant-loop-place
invariant-loop-place l = LiveSoFar l.weights l.owner.items l.children l.place l.next l.all
