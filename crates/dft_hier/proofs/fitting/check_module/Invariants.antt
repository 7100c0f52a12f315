use Rattle.dft_hier.proofs.FitLemmas.{CheckedSoFar}
use Rattle.dft_hier.proofs.fitting.check_module.Given as goal

abbrev pub invariant-loop-item : goal.invariant-loop-item
invariant-loop-item l = CheckedSoFar l.modules l.owner.items l.children l.item-index l.next
