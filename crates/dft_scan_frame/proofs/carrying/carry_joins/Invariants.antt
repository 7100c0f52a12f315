use Rattle.std.proofs.Common.{drop, map}
use Rattle.dft_scan_frame.specs.Growing.{join_things, with_things}
use Rattle.dft_scan_frame.specs.Moves.{moved_join}
use Rattle.dft_scan_frame.proofs.Completing.{Completes}
use Rattle.dft_scan_frame.proofs.carrying.carry_joins.Given as goal

abbrev pub invariant-loop-join : goal.invariant-loop-join
invariant-loop-join l =
    Completes (with_things l.initial.builder (join_things (map (moved_join l.gap) l.joins))) l.builder (join_things (map (moved_join l.gap) (drop l.join-index l.joins)))
