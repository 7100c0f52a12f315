-- One net more has its op.
use Rattle.dft_logic.specs.Compiling.{ports_by}
use Rattle.dft_logic.proofs.BuildLemmas.{op_pushed}
use Rattle.dft_logic.proofs.building.net_ops.Goals as goal

pub loop-net-preserved : goal.loop-net-preserved
loop-net-preserved c =
    op_pushed c.args.traced.design.now (ports_by c.args.traced.flags.now) c.loop-net.ops.items c.push.new.self.items c.in_ok-net_op.field-0 c.loop-net.net c.loop-net.invariant.count c.in_ok-push.ensures.items c.loop-net.invariant.each c.in_ok-net_op.ensures
