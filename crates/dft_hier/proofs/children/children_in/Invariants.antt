use Rattle.dft_hier.proofs.NumberLemmas.{ChildrenSoFar}
use Rattle.dft_hier.proofs.children.children_in.Given as goal

abbrev pub invariant-loop-item : goal.invariant-loop-item
invariant-loop-item l = ChildrenSoFar l.numbers l.owner.items l.item-index l.children
