use Rattle.std.proofs.Common.{◌≡◌, Err, rules}
use Rattle.dft_top.proofs.Following.{end_follows, step_follows, stop_follows}
use Rattle.dft_top.proofs.configuring.outcome_of_configure.Goals as goal

pub returns-in_err-library : goal.returns-in_err-library
returns-in_err-library g c =
    let stops : c.from_residual.result ≡ Err c.in_err-library.field-0.0 = search rules in
    stop_follows _ _ _ _ _ c.in_err-library.field-0.0 _ stops c.in_err-library.ensures

pub returns-in_err-design : goal.returns-in_err-design
returns-in_err-design g c =
    let stops : c.from_residual-in_err-design.result ≡ Err c.in_err-design.field-0.0 = search rules in
    step_follows _ _ _ _ _ _ c.in_ok-library.library _ c.in_ok-library.ensures (stop_follows _ _ _ _ _ c.in_err-design.field-0.0 _ stops c.in_err-design.ensures.takes)

pub returns : goal.returns
returns g c = step_follows _ _ _ _ _ _ c.in_ok-library.library _ c.in_ok-library.ensures (step_follows _ _ _ _ _ _ c.in_ok-design.design _ c.in_ok-design.ensures.takes (end_follows _ _ _ c.outcome_of_design.ensures.quiet c.outcome_of_design.ensures.outcome))
