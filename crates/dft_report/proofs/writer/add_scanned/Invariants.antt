use Rattle.std.proofs.Common.{◌≡◌, ◌++◌, flat_map, drop}
use Rattle.dft_report.specs.Written.{scanned_line}
use Rattle.dft_report.proofs.writer.add_scanned.Given as goal

abbrev pub invariant-loop-line : goal.invariant-loop-line
invariant-loop-line l = l.out.items ++ flat_map scanned_line (drop l.line-index l.lines) ≡ l.fn.out.items ++ flat_map scanned_line l.lines
