use Rattle.std.proofs.Common.{◌≡◌, ◌+◌, length, arith}
use Rattle.dft_decompressor.specs.StageSets.{threes_with}
use Rattle.dft_decompressor.proofs.ThreeLemmas.{counted_more, with_count}
use Rattle.dft_decompressor.proofs.threes.count_after.Goals as goal

pub loop-second-preserved : goal.loop-second-preserved
loop-second-preserved c =
    let count = with_count c.args.stages c.args.first c.loop-second.second in
    let more = c.from-count.ensures in
    let part : c.from-count.result ≡ length (threes_with c.args.stages c.args.first c.loop-second.second) = omega (arith, count, more) in
    record {
      counted = counted_more (threes_with c.args.stages c.args.first) (c.args.first + 1) c.loop-second.second c.loop-second.count c.from-count.result c.loop-second.invariant.from c.loop-second.invariant.counted part;
      few = omega (arith, more);
      from = omega arith;
    }
