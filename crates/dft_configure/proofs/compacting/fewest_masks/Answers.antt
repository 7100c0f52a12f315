use Rattle.std.proofs.Common.{◌+◌, ◌∙◌, sym}
use Rattle.dft_rules.proofs.FindLemmas.{range_on}
use Rattle.dft_configure.specs.Compacting.{are_enough}
use Rattle.dft_configure.proofs.compacting.fewest_masks.Goals as goal

pub loop-masks-preserved : goal.loop-masks-preserved
loop-masks-preserved c = sym (range_on (are_enough c.args.chains c.args.cycles) c.loop-masks.masks (c.min-most.result + 1) c.loop-masks-test.true (sym c.are_enough.ensures ∙ c.if-are_enough.false)) ∙ c.loop-masks.invariant
