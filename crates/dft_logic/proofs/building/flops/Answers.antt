-- One instance more.
use Rattle.dft_logic.specs.Compiling.{ports_by}
use Rattle.dft_logic.proofs.BuildLemmas.{flop_pushed}
use Rattle.dft_logic.proofs.building.flops.Goals as goal

pub loop-number-preserved : goal.loop-number-preserved
loop-number-preserved c =
    flop_pushed c.args.traced.design.now (ports_by c.args.traced.flags.now) c.loop-number.flops.items c.push.new.self.items c.in_ok-instance_flop.field-0 c.loop-number.number c.in_ok-push.ensures.items c.loop-number.invariant c.in_ok-instance_flop.ensures
