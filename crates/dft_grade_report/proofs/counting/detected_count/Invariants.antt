use Rattle.std.proofs.Common.{◌≡◌, ◌≤◌, count_by, take}
use Rattle.dft_grade_report.specs.Counted.{is_detected}
use Rattle.dft_grade_report.proofs.counting.detected_count.Given as goal

abbrev pub invariant-loop-one : goal.invariant-loop-one
invariant-loop-one l = record {
  counted : l.found ≡ count_by (λ g. is_detected g.grade) (take l.one-index l.graded);
  few : l.found ≤ l.one-index;
}
