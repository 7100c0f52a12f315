-- Refusals of the report are those of its text.
use Rattle.std.proofs.Common.{ℕ, ◌∙◌, subst}
use Rattle.std.specs.Prelude.{option_map}
use Rattle.std.proofs.lemmas.Result.{err_from_is_err_and}
use Rattle.dft_report.specs.declared.report.Report as report
use Rattle.dft_report.specs.Refusals.{IsTooLong}
use Rattle.dft_report.specs.Written.{written}
use Rattle.dft_compile.specs.declared.error.CompileError.TheVariants.{Report}
use Rattle.dft_compile.specs.Refusals.{IsRefusal, of_length, too_long}
use Rattle.dft_compile.specs.Texts.{report_text}
use Rattle.dft_compile.proofs.LateLemmas.{err_refused, report_refused}
use Rattle.dft_compile.proofs.ReportLemmas.{bytes_are, report_is}
use Rattle.dft_compile.proofs.reporting.report_text.Goals as goal

pub returns-in_err-check_report-clause-refused : goal.returns-in_err-check_report-clause-refused
returns-in_err-check_report-clause-refused c =
    let l = c.args.loads.now in
    let text = report_text l.design l.config l.rows c.args.cubes.now c.args.placed.now in
    let error = c.in_err-check_report.field-0.0 in
    let p = err_from_is_err_and c.from_residual-in_err-check_report.result c.from_residual-in_err-check_report.ensures.1 in
    let same = bytes_are l c.args.cubes.now c.args.placed.now c.in_ok-report.report c.soundness.ensures.planned c.in_ok-report.ensures in
    err_refused (option_map Report (too_long text)) c.from_residual-in_err-check_report.result p.0 error p.1 p.2
    (subst (λ (k : ℕ). IsRefusal (option_map Report (of_length k)) error) same c.in_err-check_report.ensures.refused)

pub returns-in_err-write-clause-refused : goal.returns-in_err-write-clause-refused
returns-in_err-write-clause-refused c =
    let l = c.args.loads.now in
    let text = report_text l.design l.config l.rows c.args.cubes.now c.args.placed.now in
    let error = c.in_err-write.field-0.0 in
    let p = err_from_is_err_and c.from_residual-in_err-write.result c.from_residual-in_err-write.ensures.1 in
    let is = report_is l c.args.cubes.now c.args.placed.now c.in_ok-report.report c.from_vec.result c.soundness.ensures.planned c.in_ok-report.ensures (c.from_vec.ensures ∙ c.in_ok-cube_reports.ensures) in
    err_refused (option_map Report (too_long text)) c.from_residual-in_err-write.result p.0 _ p.1 p.2
    (report_refused text error (subst (λ (r : report.Report). IsTooLong (written r) error) is c.in_err-write.ensures.refused))
