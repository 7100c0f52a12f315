use Rattle.std.proofs.Common.{drop, filter}
use Rattle.dft_scan_frame.specs.Growing.{join_things, with_things}
use Rattle.dft_scan_frame.proofs.Completing.{Completes}
use Rattle.dft_faults.specs.Faulty.{is_elsewhere}
use Rattle.dft_faults.proofs.stuck.carry_joins.Given as goal

abbrev pub invariant-loop-join : goal.invariant-loop-join
invariant-loop-join l =
    Completes (with_things l.initial.builder (join_things (filter (is_elsewhere l.net.0) l.joins))) l.builder (join_things (filter (is_elsewhere l.net.0) (drop l.join-index l.joins)))
