use Rattle.dft_hier.proofs.NumberLemmas.{AllSoFar}
use Rattle.dft_hier.proofs.children.all_children.Given as goal

abbrev pub invariant-loop-owner : goal.invariant-loop-owner
invariant-loop-owner l = AllSoFar l.modules l.owner-index l.all.items
