-- The bytes that are told are those of the report.
use Rattle.std.proofs.Common.{◌≡◌, ◌∙◌, List, ℕ, ap}
use Rattle.std.proofs.lemmas.Result.{err_from_is_err_and}
use Rattle.dft_grade_report.specs.Counted.{counts_of}
use Rattle.dft_grade_report.specs.Written.{head_text}
use Rattle.dft_grade_report.proofs.Lengths.{report_fits, report_longer}
use Rattle.dft_grade_report.proofs.writer.write.Goals as goal

pub returns-clause-fits : goal.returns-clause-fits
returns-clause-fits c =
    let head : c.deref.result.now ≡ head_text (counts_of c.args.graded.now) = c.deref.ensures.value ∙ c.in_ok-out.ensures ∙ ap head_text c.counts_of.ensures in
    report_fits c.args.design.now c.args.patterns.now c.args.graded.now c.deref.result.now c.signals-signals.result.now head c.signals-signals.ensures c.in_ok-check_report.ensures.accepted

pub returns-in_err-check_report-clause-refused : goal.returns-in_err-check_report-clause-refused
returns-in_err-check_report-clause-refused c =
    let head : c.deref.result.now ≡ head_text (counts_of c.args.graded.now) = c.deref.ensures.value ∙ c.in_ok-out.ensures ∙ ap head_text c.counts_of.ensures in
    let q = err_from_is_err_and c.from_residual-in_err-check_report.result c.from_residual-in_err-check_report.ensures.1 in
    rw (q.1, q.2)
    (report_longer c.args.design.now c.args.patterns.now c.args.graded.now c.deref.result.now c.signals-signals.result.now c.in_err-check_report.field-0.0 head c.signals-signals.ensures c.in_err-check_report.ensures.refused)
