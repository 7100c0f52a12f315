-- One fault after another.
use Rattle.std.proofs.Common.{List, subst, sym}
use Rattle.dft_netlist.specs.Netlist.{Netlist}
use Rattle.dft_patterns.specs.Patterns.{Patterns}
use Rattle.dft_faults.specs.declared.fault.Fault.{Fault}
use Rattle.dft_grade.proofs.AllOfThem.{SoFar, all_done, fault_at, none_yet, one_more}
use Rattle.dft_grade.proofs.grading.grades_of.Goals as goal

pub loop-fault-init : goal.loop-fault-init
loop-fault-init c = subst (SoFar c.args.design.now c.args.patterns.now c.args.faults.now 0) (sym c.new-graded.ensures.items) (none_yet c.args.design.now c.args.patterns.now c.args.faults.now)

pub grade-requires-clause-fault : goal.grade-requires-clause-fault
grade-requires-clause-fault c = fault_at c.args.design.now c.args.faults.now c.loop-fault.fault-index _ c.requires.faults c.loop-fault-test.true

pub loop-fault-preserved : goal.loop-fault-preserved
loop-fault-preserved c =
    one_more c.args.design.now c.args.patterns.now c.args.faults.now c.loop-fault.fault-index _ c.loop-fault.graded.items c.push.new.self.items c.in_ok-found.found c.loop-fault-test.true c.loop-fault.invariant c.in_ok-found.ensures.graded
    c.in_ok-push.ensures.items

pub returns-clause-faults : goal.returns-clause-faults
returns-clause-faults c = all_done c.args.design.now c.args.patterns.now c.args.faults.now c.loop-fault.fault-index c.loop-fault.graded.items c.loop-fault-test.false c.loop-fault.invariant

pub returns-clause-each : goal.returns-clause-each
returns-clause-each c = c.loop-fault.invariant.each
