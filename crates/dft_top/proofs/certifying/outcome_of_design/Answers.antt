use Rattle.std.proofs.Common.{◌≡◌, Err, Ok, rules}
use Rattle.dft_stitch.specs.Chains.{plan_of}
use Rattle.dft_top.specs.Checks.{PlanGives}
use Rattle.dft_top.proofs.Following.{given_takes, step_follows, stop_follows}
use Rattle.dft_top.proofs.certifying.outcome_of_design.Goals as goal

pub returns-in_err-loads : goal.returns-in_err-loads
returns-in_err-loads g c =
    let stops : c.from_residual.result ≡ Err c.in_err-loads.field-0.0 = search rules in
    stop_follows _ _ _ _ _ c.in_err-loads.field-0.0 _ stops (given_takes (PlanGives c.args.design.now c.args.config.now) _ (Err c.in_err-loads.field-0.0) c.in_err-loads.ensures.refused)

pub returns : goal.returns
returns g c =
    let plan = plan_of c.args.design.now c.args.config.now in
    step_follows _ _ _ _ _ _ plan _ (given_takes (PlanGives c.args.design.now c.args.config.now) _ (Ok plan) c.in_ok-loads.ensures.given)
    (rw (c.in_ok-loads.ensures.design, c.in_ok-loads.ensures.config) at c.outcome_with.ensures)
