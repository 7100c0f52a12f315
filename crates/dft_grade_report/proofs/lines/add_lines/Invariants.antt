use Rattle.std.proofs.Common.{◌≡◌, ◌++◌, flat_map, drop}
use Rattle.dft_grade_report.specs.Written.{fault_line}
use Rattle.dft_grade_report.proofs.lines.add_lines.Given as goal

abbrev pub invariant-loop-one : goal.invariant-loop-one
invariant-loop-one l = l.out.items ++ flat_map (fault_line l.design l.signals) (drop l.one-index l.graded) ≡ l.fn.out.items ++ flat_map (fault_line l.design l.signals) l.graded
