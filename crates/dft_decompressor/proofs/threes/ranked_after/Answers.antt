use Rattle.std.proofs.Common.{◌≡◌, ◌+◌, ◌-◌, ◌<◌, ◌≤◌, ◌∙◌, ℕ, length, flat_map, subst, sym, arith}
use Rattle.std.specs.Prelude.{slice_get}
use Rattle.std.specs.List.{range_with_len}
use Rattle.dft_decompressor.specs.StageSets.{threes_after, threes_with}
use Rattle.dft_decompressor.proofs.Lists.{rank_here, rank_on}
use Rattle.dft_decompressor.proofs.ThreeLemmas.{with_count, with_rank}
use Rattle.dft_decompressor.proofs.threes.ranked_after.Goals as goal

pub returns-then-left-count : goal.returns-then-left-count
returns-then-left-count c =
    let count = with_count c.args.stages c.args.first c.loop-second.second in
    let more = c.from-count.ensures in
    let less : c.loop-second.left < c.args.stages - (c.loop-second.second + 1) = omega (arith, more) in
    let within : c.loop-second.left < length (threes_with c.args.stages c.args.first c.loop-second.second) = omega (arith, count) in
    sym (with_rank c.args.stages c.args.first c.loop-second.second c.loop-second.left less)
    ∙ rank_here (threes_with c.args.stages c.args.first) c.loop-second.second c.args.stages c.loop-second.left (slice_get (threes_after c.args.stages c.args.first) c.args.rank) c.loop-second-test.true within c.loop-second.invariant

pub loop-second-preserved : goal.loop-second-preserved
loop-second-preserved c =
    let count = with_count c.args.stages c.args.first c.loop-second.second in
    let more = c.from-count.ensures in
    let part : length (threes_with c.args.stages c.args.first c.loop-second.second) ≡ c.from-count.result = omega (arith, count, more) in
    let past : length (threes_with c.args.stages c.args.first c.loop-second.second) ≤ c.loop-second.left = omega arith in
    subst (λ (n : ℕ). slice_get (flat_map (threes_with c.args.stages c.args.first) (range_with_len (c.loop-second.second + 1) (c.args.stages - (c.loop-second.second + 1)))) (c.loop-second.left - n) ≡ slice_get (threes_after c.args.stages c.args.first) c.args.rank) part
    (rank_on (threes_with c.args.stages c.args.first) c.loop-second.second c.args.stages c.loop-second.left (slice_get (threes_after c.args.stages c.args.first) c.args.rank) c.loop-second-test.true past c.loop-second.invariant)
