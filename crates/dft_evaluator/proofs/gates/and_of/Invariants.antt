-- The inputs so far, and the rest.
use Rattle.dft_cells.specs.Gates.{all_one}
use Rattle.dft_cells.specs.Tables.{and_tri}
use Rattle.dft_evaluator.proofs.FoldLemmas.{Folded}
use Rattle.dft_evaluator.proofs.gates.and_of.Given as goal

abbrev pub invariant-loop-input : goal.invariant-loop-input
invariant-loop-input l = Folded all_one and_tri l.wides l.inputs l.input-index l.result
