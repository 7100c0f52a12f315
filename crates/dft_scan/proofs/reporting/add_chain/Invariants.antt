-- The lines so far, and those of the cells left.
use Rattle.std.proofs.Common.{◌≡◌, ◌++◌, drop}
use Rattle.std.specs.List.{enumerate_from, filter_map}
use Rattle.dft_scan.specs.Reports.{scanned_in, scanned_line}
use Rattle.dft_scan.proofs.reporting.add_chain.Given as goal

abbrev pub invariant-loop-place : goal.invariant-loop-place
invariant-loop-place l =
    l.lines.items ++ filter_map (λ at. scanned_line l.design l.config l.verdicts l.chain at.0 at.1) (enumerate_from l.place (drop l.place l.cells))
    ≡ l.fn.lines.items ++ scanned_in l.design l.config l.verdicts l.chain l.cells
