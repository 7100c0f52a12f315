use Rattle.std.proofs.Common.{◌≡◌, Err, rules}
use Rattle.dft_top.proofs.Following.{step_follows, stop_follows}
use Rattle.dft_top.proofs.seeking.outcome_of_seek.Goals as goal

pub returns-in_err-library : goal.returns-in_err-library
returns-in_err-library g c =
    let stops : c.from_residual.result ≡ Err c.in_err-library.field-0.0 = search rules in
    stop_follows _ _ _ _ _ c.in_err-library.field-0.0 _ stops c.in_err-library.ensures

pub returns-in_err-config : goal.returns-in_err-config
returns-in_err-config g c =
    let stops : c.from_residual-in_err-config.result ≡ Err c.in_err-config.field-0.0 = search rules in
    step_follows _ _ _ _ _ _ c.in_ok-library.library _ c.in_ok-library.ensures (stop_follows _ _ _ _ _ c.in_err-config.field-0.0 _ stops c.in_err-config.ensures)

pub returns-in_err-design : goal.returns-in_err-design
returns-in_err-design g c =
    let stops : c.from_residual-in_err-design.result ≡ Err c.in_err-design.field-0.0 = search rules in
    step_follows _ _ _ _ _ _ c.in_ok-library.library _ c.in_ok-library.ensures (step_follows _ _ _ _ _ _ c.in_ok-config.config _ c.in_ok-config.ensures (stop_follows _ _ _ _ _ c.in_err-design.field-0.0 _ stops c.in_err-design.ensures.takes))

pub returns : goal.returns
returns g c =
    step_follows _ _ _ _ _ _ c.in_ok-library.library _ c.in_ok-library.ensures (step_follows _ _ _ _ _ _ c.in_ok-config.config _ c.in_ok-config.ensures (step_follows _ _ _ _ _ _ c.in_ok-design.design _ c.in_ok-design.ensures.takes
    (c.outcome_of_design.ensures _)))
