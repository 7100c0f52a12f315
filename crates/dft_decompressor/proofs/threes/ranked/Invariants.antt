-- The rank among the sets with the first stages from here on.
use Rattle.std.proofs.Common.{◌≡◌, ◌-◌, flat_map}
use Rattle.std.specs.Prelude.{slice_get}
use Rattle.std.specs.List.{range_with_len}
use Rattle.dft_decompressor.specs.StageSets.{threes, threes_after}
use Rattle.dft_decompressor.proofs.threes.ranked.Given as goal

abbrev pub invariant-loop-first : goal.invariant-loop-first
invariant-loop-first l = slice_get (flat_map (threes_after l.stages) (range_with_len l.first (l.stages - l.first))) l.left ≡ slice_get (threes l.stages) l.rank
