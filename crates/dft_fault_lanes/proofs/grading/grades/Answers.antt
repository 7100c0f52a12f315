-- The faults are those that are listed, and each grade holds in every run.
use Rattle.std.proofs.Common.{◌∙◌, List, subst, sym}
use Rattle.dft_netlist.specs.Netlist.{Netlist}
use Rattle.dft_netlist.proofs.RankLemmas.{order_ranks}
use Rattle.dft_patterns.specs.Patterns.{Patterns}
use Rattle.dft_grade.specs.declared.found.Graded.{Graded}
use Rattle.dft_grade.specs.AllGrades.{AreGrades}
use Rattle.dft_grade.proofs.AllOfThem.{all_fail, few_grades}
use Rattle.dft_fault_lanes.specs.Gathers.{AreFaults}
use Rattle.dft_fault_lanes.proofs.grading.grades.Goals as goal

pub told_of-requires-clause-each : goal.told_of-requires-clause-each
told_of-requires-clause-each c = subst (AreFaults c.args.design.now) (sym c.deref.ensures.value) c.in_ok-faults.ensures.each

pub grades_of-requires-clause-faults : goal.grades_of-requires-clause-faults
grades_of-requires-clause-faults c = subst (AreFaults c.args.design.now) (sym c.deref-2.ensures.value) c.in_ok-faults.ensures.each

pub returns : goal.returns
returns c =
    let n : Netlist = c.args.design.now in
    let p : Patterns = c.args.patterns.now in
    let graded : List Graded = c.in_ok-graded.graded.items in
    let known = c.soundness.ensures in
    let ranked = order_ranks n known.ordered.order known.netlist known.ordered.is in
    let are : AreGrades n p graded = record { faults = c.in_ok-graded.ensures.faults ∙ c.deref-2.ensures.value ∙ c.in_ok-faults.ensures.faults; each = c.in_ok-graded.ensures.each } in
    record {
      fit = c.in_ok-faults.ensures.fit;
      grades = are;
      runs = all_fail n ranked.0 p graded ranked.1 are;
      few = few_grades n p graded known.netlist.few_nets are.faults;
      misfit = tt;
    }
