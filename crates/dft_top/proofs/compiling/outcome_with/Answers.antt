use Rattle.std.proofs.Common.{◌≡◌, Err, List, rules, subst}
use Rattle.dft_cubes.specs.declared.cube.Cube.{Cube}
use Rattle.dft_top.specs.Follows.{ComesTo}
use Rattle.dft_top.specs.Outcomes.{IsOutcomeOfCubes}
use Rattle.dft_top.proofs.Following.{end_follows, step_follows, stop_follows}
use Rattle.dft_top.proofs.compiling.outcome_with.Goals as goal

pub returns-in_err-cubes : goal.returns-in_err-cubes
returns-in_err-cubes g c =
    let stops : c.from_residual.result ≡ Err c.in_err-cubes.field-0.0 = search rules in
    stop_follows _ _ _ _ _ c.in_err-cubes.field-0.0 _ stops c.in_err-cubes.ensures.takes

pub returns : goal.returns
returns g c =
    let comes : ComesTo (IsOutcomeOfCubes c.args.design.now c.args.config.now c.in_ok-cubes.cubes) c.outcome_of_cubes.result =
    subst (λ (given : List Cube). ComesTo (IsOutcomeOfCubes c.args.design.now c.args.config.now given) c.outcome_of_cubes.result) c.as_slice.ensures c.outcome_of_cubes.ensures.outcome in
    step_follows _ _ _ _ _ _ c.in_ok-cubes.cubes _ c.in_ok-cubes.ensures.takes (end_follows _ _ _ c.outcome_of_cubes.ensures.quiet comes)
