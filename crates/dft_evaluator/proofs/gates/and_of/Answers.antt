-- One input more.
use Rattle.std.proofs.Common.{refl, arith}
use Rattle.dft_base.specs.declared.tri.Tri.TheVariants.{One}
use Rattle.dft_cells.specs.Gates.{all_one}
use Rattle.dft_cells.specs.Tables.{and_tri}
use Rattle.dft_cells.proofs.Pairs.{and_step}
use Rattle.dft_evaluator.specs.Wides.{value_in}
use Rattle.dft_evaluator.proofs.WideLemmas.{wide_ands}
use Rattle.dft_evaluator.proofs.FoldLemmas.{folding_starts, folding_goes_on, folding_ends, and_one}
use Rattle.dft_evaluator.proofs.gates.and_of.Goals as goal

pub loop-input-init : goal.loop-input-init
loop-input-init c = folding_starts all_one and_tri c.args.wides.now c.args.inputs.now _ One (λ t. refl) c.all-result.ensures

pub loop-input-preserved : goal.loop-input-preserved
loop-input-preserved c =
    folding_goes_on all_one and_tri c.args.wides.now c.args.inputs.now c.loop-input.input-index _ c.loop-input.result c.wide_and-result.result and_step c.loop-input-test.true c.loop-input.invariant
    (wide_ands c.wide_and-result.result c.loop-input.result c.operand.result (value_in c.loop-input.result) _ c.loop-input.invariant.whole c.operand.ensures c.wide_and-result.ensures)

pub returns : goal.returns
returns c = folding_ends all_one and_tri c.args.wides.now c.args.inputs.now c.loop-input.input-index c.loop-input.result and_one (omega arith) c.loop-input.invariant
