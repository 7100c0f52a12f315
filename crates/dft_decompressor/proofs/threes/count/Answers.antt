use Rattle.std.proofs.Common.{arith}
use Rattle.dft_decompressor.specs.StageSets.{threes_after}
use Rattle.dft_decompressor.proofs.ThreeLemmas.{counted_more}
use Rattle.dft_decompressor.proofs.threes.count.Goals as goal

pub loop-first-preserved : goal.loop-first-preserved
loop-first-preserved c = record {
  counted = counted_more (threes_after c.args.stages) 0 c.loop-first.first c.loop-first.count c.count_after-count.result (omega arith) c.loop-first.invariant.counted c.count_after-count.ensures.count;
  few = let few = c.count_after-count.ensures.few in omega arith;
}
