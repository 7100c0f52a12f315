-- One input more.
use Rattle.std.proofs.Common.{refl, arith}
use Rattle.dft_base.specs.declared.tri.Tri.TheVariants.{Zero}
use Rattle.dft_cells.specs.Gates.{odd_ones}
use Rattle.dft_cells.specs.Tables.{xor_tri}
use Rattle.dft_cells.proofs.Pairs.{xor_step}
use Rattle.dft_evaluator.specs.Wides.{value_in}
use Rattle.dft_evaluator.proofs.WideLemmas.{wide_xors}
use Rattle.dft_evaluator.proofs.FoldLemmas.{folding_starts, folding_goes_on, folding_ends, xor_zero}
use Rattle.dft_evaluator.proofs.gates.xor_of.Goals as goal

pub loop-input-init : goal.loop-input-init
loop-input-init c = folding_starts odd_ones xor_tri c.args.wides.now c.args.inputs.now _ Zero (λ t. refl) c.all-result.ensures

pub loop-input-preserved : goal.loop-input-preserved
loop-input-preserved c =
    folding_goes_on odd_ones xor_tri c.args.wides.now c.args.inputs.now c.loop-input.input-index _ c.loop-input.result c.wide_xor-result.result xor_step c.loop-input-test.true c.loop-input.invariant
    (wide_xors c.wide_xor-result.result c.loop-input.result c.operand.result (value_in c.loop-input.result) _ c.loop-input.invariant.whole c.operand.ensures c.wide_xor-result.ensures)

pub returns : goal.returns
returns c = folding_ends odd_ones xor_tri c.args.wides.now c.args.inputs.now c.loop-input.input-index c.loop-input.result xor_zero (omega arith) c.loop-input.invariant
