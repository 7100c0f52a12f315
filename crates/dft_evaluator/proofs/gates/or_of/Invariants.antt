-- The inputs so far, and the rest.
use Rattle.dft_cells.specs.Gates.{any_one}
use Rattle.dft_cells.specs.Tables.{or_tri}
use Rattle.dft_evaluator.proofs.FoldLemmas.{Folded}
use Rattle.dft_evaluator.proofs.gates.or_of.Given as goal

abbrev pub invariant-loop-input : goal.invariant-loop-input
invariant-loop-input l = Folded any_one or_tri l.wides l.inputs l.input-index l.result
