use Rattle.std.proofs.Common.{◌≡◌, Err, List, rules}
use Rattle.dft_cubes.specs.declared.cube.Cube.{Cube}
use Rattle.dft_top.specs.Outcomes.{course_of_report}
use Rattle.dft_top.proofs.Following.{same_follows, step_follows, stop_follows}
use Rattle.dft_top.proofs.certifying.outcome_with.Goals as goal

pub returns-in_err-cubes : goal.returns-in_err-cubes
returns-in_err-cubes g c =
    let stops : c.from_residual.result ≡ Err c.in_err-cubes.field-0.0 = search rules in
    let takes = rw (c.design.ensures, c.config.ensures) at c.in_err-cubes.ensures.takes in
    stop_follows _ _ _ _ _ c.in_err-cubes.field-0.0 _ stops takes

pub returns : goal.returns
returns g c =
    let over = λ (given : List Cube). course_of_report c.args.loads.now.design c.args.loads.now.config given c.args.report.now in
    let takes = rw (c.design.ensures, c.config.ensures) at c.in_ok-cubes.ensures.takes in
    step_follows _ _ _ _ _ _ c.in_ok-cubes.cubes _ takes (same_follows over _ _ _ _ _ c.as_slice.ensures c.outcome_over.ensures)
