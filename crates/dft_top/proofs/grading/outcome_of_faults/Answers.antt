use Rattle.std.proofs.Common.{List, subst}
use Rattle.dft_netlist.specs.Netlist.{Netlist}
use Rattle.dft_patterns.specs.Patterns.{Patterns}
use Rattle.dft_replay.specs.Fits.{first_misfit}
use Rattle.dft_grade.specs.declared.found.Graded.{Graded}
use Rattle.dft_grade_report.specs.Written.{report_text}
use Rattle.dft_compile.specs.Refusals.{too_long}
use Rattle.dft_top.specs.Follows.{ComesTo}
use Rattle.dft_top.specs.Outcomes.{IsOutcomeOfGraded}
use Rattle.dft_top.proofs.Gradings.{faults_come}
use Rattle.dft_top.proofs.grading.outcome_of_faults.Goals as goal

pub returns-in-Ok-clause-outcome : goal.returns-in-Ok-clause-outcome
returns-in-Ok-clause-outcome c =
    let n : Netlist = c.args.design.now in
    let p : Patterns = c.args.patterns.now in
    faults_come n p c.in-Ok.graded.items (first_misfit n p.signals) c.outcome_of_graded.result c.in-Ok.ensures.fit c.in-Ok.ensures.grades
    (subst (λ (graded : List Graded). ComesTo (IsOutcomeOfGraded n p graded (too_long (report_text n p graded))) c.outcome_of_graded.result) c.as_slice.ensures.value c.outcome_of_graded.ensures.outcome)
