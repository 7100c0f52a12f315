-- The segments so far, and the first chain of the next.
use Rattle.std.proofs.Common.{◌≡◌, ◌*◌, ◌≤◌, map}
use Rattle.std.specs.List.{range_with_len}
use Rattle.dft_config.specs.Segments.{segment_start}
use Rattle.dft_vectors.specs.Segments.{segment_of}
use Rattle.dft_vectors.proofs.added.segments.Given as goal

abbrev pub invariant-loop-segment : goal.invariant-loop-segment
invariant-loop-segment l = record {
  so_far : l.segments.items ≡ map (segment_of l.config) (range_with_len 0 l.segment);
  start : l.start ≡ segment_start l.config l.segment;
  small : l.start ≤ l.segment * 1025;
}
