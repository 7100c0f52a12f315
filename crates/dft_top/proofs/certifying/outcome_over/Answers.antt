use Rattle.std.proofs.Common.{◌≡◌, Err, rules}
use Rattle.dft_top.proofs.Following.{end_follows, step_follows, stop_follows}
use Rattle.dft_top.proofs.certifying.outcome_over.Goals as goal

pub returns-in_err-report : goal.returns-in_err-report
returns-in_err-report g c =
    let stops : c.from_residual.result ≡ Err c.in_err-report.field-0.0 = search rules in
    stop_follows _ _ _ _ _ c.in_err-report.field-0.0 _ stops c.in_err-report.ensures

pub returns : goal.returns
returns g c = step_follows _ _ _ _ _ _ c.in_ok-report.report _ c.in_ok-report.ensures (end_follows _ _ _ c.outcome_of_report.ensures.quiet c.outcome_of_report.ensures.outcome)
