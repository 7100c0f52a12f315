use Rattle.std.proofs.Common.{◌≡◌, Err, List, Ok, codes, refl, rules, subst}
use Rattle.dft_cubes.specs.declared.cube.Cube.{Cube}
use Rattle.dft_top.specs.declared.limits.TheConstants.{MAX_CUBE_BYTES}
use Rattle.dft_top.specs.Checks.{CubeText}
use Rattle.dft_top.specs.Follows.{ComesTo}
use Rattle.dft_top.specs.Outcomes.{IsOutcomeOfCubes, texts_held}
use Rattle.dft_top.proofs.Following.{end_follows, file_takes, step_follows, stop_follows}
use Rattle.dft_top.proofs.generating.compiled_with.Goals as goal

pub returns-in_err-cubes : goal.returns-in_err-cubes
returns-in_err-cubes c = λ netlist settings.
    let held = texts_held netlist settings c.args.cubes.now in
    let stops : c.from_residual.result ≡ Err c.in_err-cubes.field-0.0 = search rules in
    stop_follows _ _ _ _ _ c.in_err-cubes.field-0.0 _ stops
    (file_takes MAX_CUBE_BYTES (codes "cubes") (CubeText c.args.design.now c.args.config.now) (codes "cubes") c.args.cubes.now held (Err c.in_err-cubes.field-0.0) refl c.in_err-cubes.ensures.given)

pub returns : goal.returns
returns c = λ netlist settings.
    let held = texts_held netlist settings c.args.cubes.now in
    let cubes = c.in_ok-cubes.cubes in
    let comes : ComesTo (IsOutcomeOfCubes c.args.design.now c.args.config.now cubes) c.outcome_of_cubes.result =
    subst (λ (given : List Cube). ComesTo (IsOutcomeOfCubes c.args.design.now c.args.config.now given) c.outcome_of_cubes.result) c.as_slice.ensures c.outcome_of_cubes.ensures.outcome in
    step_follows _ _ _ _ _ _ cubes _ (file_takes MAX_CUBE_BYTES (codes "cubes") (CubeText c.args.design.now c.args.config.now) (codes "cubes") c.args.cubes.now held (Ok cubes) refl c.in_ok-cubes.ensures.given)
    (end_follows _ _ _ c.outcome_of_cubes.ensures.quiet comes)
