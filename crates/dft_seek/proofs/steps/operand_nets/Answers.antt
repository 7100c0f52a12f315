-- One operand more.
use Rattle.dft_netlist.specs.Orders.{numbers_of}
use Rattle.dft_seek.proofs.StepLemmas.{operands_more}
use Rattle.dft_seek.proofs.steps.operand_nets.Goals as goal

pub loop-input-preserved : goal.loop-input-preserved
loop-input-preserved c =
    operands_more c.args.inputs.now c.loop-input.input-index _ (numbers_of c.loop-input.nets.items) (numbers_of c.add_operand.new.nets.items) _ c.loop-input-test.true c.in_ok-add_operand.ensures c.loop-input.invariant
