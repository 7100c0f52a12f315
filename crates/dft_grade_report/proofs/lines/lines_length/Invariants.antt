use Rattle.std.proofs.Common.{◌≡◌, ◌+◌, drop}
use Rattle.dft_grade_report.specs.Written.{lines_length}
use Rattle.dft_grade_report.proofs.lines.lines_length.Given as goal

abbrev pub invariant-loop-one : goal.invariant-loop-one
invariant-loop-one l = l.bytes + lines_length l.design l.signals (drop l.one-index l.graded) ≡ lines_length l.design l.signals l.graded
