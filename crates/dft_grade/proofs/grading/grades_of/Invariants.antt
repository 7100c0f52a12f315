-- What is graded so far, and the faults that are left.
use Rattle.dft_grade.proofs.AllOfThem.{SoFar}
use Rattle.dft_grade.proofs.grading.grades_of.Given as goal

abbrev pub invariant-loop-fault : goal.invariant-loop-fault
invariant-loop-fault l = SoFar l.design l.patterns l.faults l.fault-index l.graded.items
