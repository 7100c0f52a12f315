-- What is graded so far, and the faults that are left.
use Rattle.dft_grade.proofs.AllOfThem.{SoFar}
use Rattle.dft_fault_lanes.proofs.grading.grades_of.Given as goal

abbrev pub invariant-loop-place : goal.invariant-loop-place
invariant-loop-place l = SoFar l.design l.patterns l.faults l.place l.graded.items
