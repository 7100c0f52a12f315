-- The rank among the sets with the second stages from here on.
use Rattle.std.proofs.Common.{◌≡◌, ◌-◌, flat_map}
use Rattle.std.specs.Prelude.{slice_get}
use Rattle.std.specs.List.{range_with_len}
use Rattle.dft_decompressor.specs.StageSets.{threes_after, threes_with}
use Rattle.dft_decompressor.proofs.threes.ranked_after.Given as goal

abbrev pub invariant-loop-second : goal.invariant-loop-second
invariant-loop-second l = slice_get (flat_map (threes_with l.stages l.first) (range_with_len l.second (l.stages - l.second))) l.left ≡ slice_get (threes_after l.stages l.first) l.rank
