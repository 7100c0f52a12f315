use Rattle.std.proofs.Common.{◌≡◌, Err, codes, rules}
use Rattle.dft_answers.proofs.TextSteps.{text_stops, text_takes}
use Rattle.dft_top.specs.declared.limits.TheConstants.{MAX_CUBE_BYTES}
use Rattle.dft_top.specs.Checks.{CubeText}
use Rattle.dft_top.proofs.loading.load_cubes.Goals as goal

pub returns-in_err-text-clause-takes : goal.returns-in_err-text-clause-takes
returns-in_err-text-clause-takes g c =
    let stops : c.from_residual.result ≡ Err c.in_err-text.field-0.0 = search rules in
    text_stops MAX_CUBE_BYTES (codes "cubes") (CubeText c.args.design.now c.args.config.now) c.args.name.now _ _ c.in_err-text.field-0.0 _ c.in_err-text.ensures.takes stops

pub returns-clause-takes : goal.returns-clause-takes
returns-clause-takes g c = text_takes MAX_CUBE_BYTES (codes "cubes") (CubeText c.args.design.now c.args.config.now) c.args.name.now _ _ _ c.in_ok-text.text _ c.in_ok-text.ensures.takes c.as_slice.ensures.value c.cubes_in.ensures.given
