use Rattle.std.proofs.Common.{List, subst, sym}
use Rattle.dft_netlist.specs.Netlist.{Netlist}
use Rattle.dft_patterns.specs.Patterns.{Patterns}
use Rattle.dft_grade.specs.declared.found.Graded.{Graded}
use Rattle.dft_grade_report.specs.Written.{report_text}
use Rattle.dft_compile.specs.Refusals.{too_long}
use Rattle.dft_top.specs.Outcomes.{IsOutcomeOfGraded}
use Rattle.dft_top.proofs.Gradings.{graded_is, unwritten_is}
use Rattle.dft_top.proofs.grading.outcome_of_graded.Goals as goal

pub returns-in-Ok-clause-outcome : goal.returns-in-Ok-clause-outcome
returns-in-Ok-clause-outcome c =
    let n : Netlist = c.args.design.now in
    let p : Patterns = c.args.patterns.now in
    let graded : List Graded = c.args.graded.now in
    subst (IsOutcomeOfGraded n p graded (too_long (report_text n p graded))) (sym c.graded_as.ensures) (graded_is c.args.design.now c.args.patterns.now c.args.graded.now c.counts_of.result c.in-Ok.report.items c.counts_of.ensures c.in-Ok.ensures.form c.in-Ok.ensures.fits)

pub returns-in_ok-report_refusal-in-Err-clause-outcome : goal.returns-in_ok-report_refusal-in-Err-clause-outcome
returns-in_ok-report_refusal-in-Err-clause-outcome c =
    unwritten_is c.args.design.now c.args.patterns.now c.args.graded.now c.in-Err.error c.in_ok-report_refusal-in-Err.field-0 c.in-Err.ensures.refused c.in_ok-report_refusal-in-Err.ensures
