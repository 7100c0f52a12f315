use Rattle.std.proofs.Common.{◌≡◌, ◌+◌, ◌-◌, ◌<◌, ◌≤◌, ◌∙◌, ℕ, length, flat_map, subst, sym, arith}
use Rattle.std.specs.Prelude.{slice_get}
use Rattle.std.specs.List.{range_with_len}
use Rattle.dft_decompressor.specs.StageSets.{threes, threes_after}
use Rattle.dft_decompressor.proofs.Lists.{rank_here, rank_on}
use Rattle.dft_decompressor.proofs.threes.ranked.Goals as goal

pub returns-then-left-count : goal.returns-then-left-count
returns-then-left-count c =
    let count = c.count_after-count.ensures.count in
    let within : c.loop-first.left < length (threes_after c.args.stages c.loop-first.first) = omega (arith, count) in
    c.ranked_after.ensures
    ∙ rank_here (threes_after c.args.stages) c.loop-first.first c.args.stages c.loop-first.left (slice_get (threes c.args.stages) c.args.rank) c.loop-first-test.true within c.loop-first.invariant

pub loop-first-preserved : goal.loop-first-preserved
loop-first-preserved c =
    let count = c.count_after-count.ensures.count in
    let past : length (threes_after c.args.stages c.loop-first.first) ≤ c.loop-first.left = omega (arith, count) in
    subst (λ (n : ℕ). slice_get (flat_map (threes_after c.args.stages) (range_with_len (c.loop-first.first + 1) (c.args.stages - (c.loop-first.first + 1)))) (c.loop-first.left - n) ≡ slice_get (threes c.args.stages) c.args.rank) (sym count)
    (rank_on (threes_after c.args.stages) c.loop-first.first c.args.stages c.loop-first.left (slice_get (threes c.args.stages) c.args.rank) c.loop-first-test.true past c.loop-first.invariant)
