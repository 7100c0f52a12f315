-- One fault after another.
use Rattle.std.proofs.Common.{◌∙◌, subst, sym}
use Rattle.std.proofs.lemmas.Option.{slice_get-get_or}
use Rattle.dft_grade.proofs.AllOfThem.{SoFar, all_done, fault_at, none_yet, one_more}
use Rattle.dft_fault_lanes.proofs.grading.grades_of.Goals as goal

pub loop-place-init : goal.loop-place-init
loop-place-init c = subst (SoFar c.args.design.now c.args.patterns.now c.args.faults.now 0) (sym c.new-graded.ensures.items) (none_yet c.args.design.now c.args.patterns.now c.args.faults.now)

pub grade_with-requires-clause-fault : goal.grade_with-requires-clause-fault
grade_with-requires-clause-fault c = fault_at c.args.design.now c.args.faults.now c.loop-place.place _ c.requires.faults c.loop-place-test.true

pub grade_with-requires-clause-told : goal.grade_with-requires-clause-told
grade_with-requires-clause-told c = λ found is. c.requires.told c.loop-place.place _ found (slice_get-get_or c.args.faults.now c.loop-place.place _ c.loop-place-test.true) (sym c.grade_in.ensures ∙ is)

pub loop-place-preserved : goal.loop-place-preserved
loop-place-preserved c =
    one_more c.args.design.now c.args.patterns.now c.args.faults.now c.loop-place.place _ c.loop-place.graded.items c.push.new.self.items c.in_ok-found.found c.loop-place-test.true c.loop-place.invariant c.in_ok-found.ensures.graded
    c.in_ok-push.ensures.items

pub returns-clause-faults : goal.returns-clause-faults
returns-clause-faults c = all_done c.args.design.now c.args.patterns.now c.args.faults.now c.loop-place.place c.loop-place.graded.items c.loop-place-test.false c.loop-place.invariant

pub returns-clause-each : goal.returns-clause-each
returns-clause-each c = c.loop-place.invariant.each
