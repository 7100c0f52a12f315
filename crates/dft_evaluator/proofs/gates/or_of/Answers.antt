-- One input more.
use Rattle.std.proofs.Common.{refl, arith}
use Rattle.dft_base.specs.declared.tri.Tri.TheVariants.{Zero}
use Rattle.dft_cells.specs.Gates.{any_one}
use Rattle.dft_cells.specs.Tables.{or_tri}
use Rattle.dft_cells.proofs.Pairs.{or_step}
use Rattle.dft_evaluator.specs.Wides.{value_in}
use Rattle.dft_evaluator.proofs.WideLemmas.{wide_ors}
use Rattle.dft_evaluator.proofs.FoldLemmas.{folding_starts, folding_goes_on, folding_ends, or_zero}
use Rattle.dft_evaluator.proofs.gates.or_of.Goals as goal

pub loop-input-init : goal.loop-input-init
loop-input-init c = folding_starts any_one or_tri c.args.wides.now c.args.inputs.now _ Zero (λ t. refl) c.all-result.ensures

pub loop-input-preserved : goal.loop-input-preserved
loop-input-preserved c =
    folding_goes_on any_one or_tri c.args.wides.now c.args.inputs.now c.loop-input.input-index _ c.loop-input.result c.wide_or-result.result or_step c.loop-input-test.true c.loop-input.invariant
    (wide_ors c.wide_or-result.result c.loop-input.result c.operand.result (value_in c.loop-input.result) _ c.loop-input.invariant.whole c.operand.ensures c.wide_or-result.ensures)

pub returns : goal.returns
returns c = folding_ends any_one or_tri c.args.wides.now c.args.inputs.now c.loop-input.input-index c.loop-input.result or_zero (omega arith) c.loop-input.invariant
