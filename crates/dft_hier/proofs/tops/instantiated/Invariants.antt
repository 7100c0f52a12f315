use Rattle.dft_hier.proofs.TopLemmas.{AreMarked}
use Rattle.dft_hier.proofs.tops.instantiated.Given as goal

abbrev pub invariant-loop-one : goal.invariant-loop-one
invariant-loop-one l = AreMarked l.children l.one-index l.marks.items
