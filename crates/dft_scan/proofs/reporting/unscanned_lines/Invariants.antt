-- The lines so far, and those of the instances left.
use Rattle.std.proofs.Common.{◌≡◌, ◌++◌, None, drop, slice_index_or}
use Rattle.std.specs.List.{enumerate_from, filter_map}
use Rattle.dft_scan.specs.Reports.{unscanned_as, unscanned_lines}
use Rattle.dft_scan.proofs.reporting.unscanned_lines.Given as goal

abbrev pub invariant-loop-number : goal.invariant-loop-number
invariant-loop-number l =
    l.lines.items ++ filter_map (λ at. unscanned_as at.1.name (slice_index_or l.verdicts at.0 None)) (enumerate_from l.number (drop l.number l.instances))
    ≡ unscanned_lines l.instances l.verdicts
