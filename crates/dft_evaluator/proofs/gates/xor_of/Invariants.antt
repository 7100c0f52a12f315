-- The inputs so far, and the rest.
use Rattle.dft_cells.specs.Gates.{odd_ones}
use Rattle.dft_cells.specs.Tables.{xor_tri}
use Rattle.dft_evaluator.proofs.FoldLemmas.{Folded}
use Rattle.dft_evaluator.proofs.gates.xor_of.Given as goal

abbrev pub invariant-loop-input : goal.invariant-loop-input
invariant-loop-input l = Folded odd_ones xor_tri l.wides l.inputs l.input-index l.result
