-- The sets with the first stages so far.
use Rattle.std.proofs.Common.{◌≡◌, ◌≤◌, ◌-◌, ◌*◌, flat_map, length}
use Rattle.std.specs.List.{range_with_len}
use Rattle.dft_decompressor.specs.StageSets.{threes_after}
use Rattle.dft_decompressor.proofs.threes.count.Given as goal

abbrev pub invariant-loop-first : goal.invariant-loop-first
invariant-loop-first l = record {
  counted : l.count ≡ length (flat_map (threes_after l.stages) (range_with_len 0 (l.first - 0)));
  few : l.count ≤ 16384 * l.first;
}
