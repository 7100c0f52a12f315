use Rattle.dft_decompressor.specs.StageSets.{moved_bit}
use Rattle.dft_decompressor.proofs.Lists.{pushed}
use Rattle.dft_decompressor.proofs.stage_sets.moved.Goals as goal

pub loop-stage-preserved : goal.loop-stage-preserved
loop-stage-preserved c = pushed (moved_bit c.args.taps.now c.args.set.now) c.loop-stage.stage c.loop-stage.bits.items c.push.new.self.items c.moved_bit.result c.in_ok-push.ensures.items c.loop-stage.invariant c.moved_bit.ensures
