-- The sets with the second stages so far.
use Rattle.std.proofs.Common.{◌≡◌, ◌≤◌, ◌+◌, ◌-◌, ◌*◌, flat_map, length}
use Rattle.std.specs.List.{range_with_len}
use Rattle.dft_decompressor.specs.StageSets.{threes_with}
use Rattle.dft_decompressor.proofs.threes.count_after.Given as goal

abbrev pub invariant-loop-second : goal.invariant-loop-second
invariant-loop-second l = record {
  counted : l.count ≡ length (flat_map (threes_with l.stages l.first) (range_with_len (l.first + 1) (l.second - (l.first + 1))));
  few : l.count ≤ 128 * l.second;
  from : l.first + 1 ≤ l.second;
}
