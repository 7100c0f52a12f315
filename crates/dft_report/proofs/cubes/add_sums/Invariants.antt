use Rattle.std.proofs.Common.{◌≡◌, ◌++◌, flat_map, drop}
use Rattle.dft_report.specs.Written.{sum_line}
use Rattle.dft_report.proofs.cubes.add_sums.Given as goal

abbrev pub invariant-loop-line : goal.invariant-loop-line
invariant-loop-line l = l.out.items ++ flat_map sum_line (drop l.line-index l.sums) ≡ l.fn.out.items ++ flat_map sum_line l.sums
