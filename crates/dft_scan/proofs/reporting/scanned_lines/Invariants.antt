-- The lines so far, and those of the chains left.
use Rattle.std.proofs.Common.{◌≡◌, ◌++◌, drop, flat_map}
use Rattle.std.specs.List.{enumerate_from}
use Rattle.dft_scan.specs.Reports.{scanned_in, scanned_lines}
use Rattle.dft_scan.proofs.reporting.scanned_lines.Given as goal

abbrev pub invariant-loop-chain : goal.invariant-loop-chain
invariant-loop-chain l =
    l.lines.items ++ flat_map (λ at. scanned_in l.design l.config l.verdicts at.0 at.1) (enumerate_from l.chain (drop l.chain l.chains.chains))
    ≡ scanned_lines l.design l.config l.verdicts l.chains.chains
