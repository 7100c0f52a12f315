use Rattle.std.proofs.Common.{◌≡◌, Err, Ok, rules}
use Rattle.dft_top.specs.Checks.{DesignGives}
use Rattle.dft_top.proofs.Following.{given_takes, step_follows, stop_follows}
use Rattle.dft_top.proofs.generating.compiled_design.Goals as goal

pub returns-in_err-prepared : goal.returns-in_err-prepared
returns-in_err-prepared c = λ netlist settings.
    let stops : c.from_residual.result ≡ Err c.in_err-prepared.field-0.0 = search rules in
    stop_follows _ _ _ _ _ c.in_err-prepared.field-0.0 _ stops (given_takes (DesignGives c.args.design.now c.args.config.now) _ (Err c.in_err-prepared.field-0.0) c.in_err-prepared.ensures)

pub returns : goal.returns
returns c = λ netlist settings.
    step_follows _ _ _ _ _ _ c.in_ok-prepared.prepared _ (given_takes (DesignGives c.args.design.now c.args.config.now) _ (Ok c.in_ok-prepared.prepared) c.in_ok-prepared.ensures) (c.compiled_with.ensures netlist settings)
