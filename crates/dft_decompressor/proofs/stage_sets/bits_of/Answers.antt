use Rattle.std.proofs.Common.{◌==◌}
use Rattle.std.specs.List.{list_any}
use Rattle.dft_decompressor.proofs.Lists.{pushed}
use Rattle.dft_decompressor.proofs.stage_sets.bits_of.Goals as goal

pub loop-stage-preserved : goal.loop-stage-preserved
loop-stage-preserved c = pushed (λ stage. list_any (λ other. other == stage) c.args.set.now) c.loop-stage.stage c.loop-stage.bits.items c.push.new.self.items c.is_among.result c.in_ok-push.ensures.items c.loop-stage.invariant c.is_among.ensures
