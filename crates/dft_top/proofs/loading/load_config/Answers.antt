use Rattle.std.proofs.Common.{◌≡◌, Err, codes, rules}
use Rattle.dft_answers.proofs.TextSteps.{text_stops, text_takes}
use Rattle.dft_top.specs.declared.limits.TheConstants.{MAX_CONFIG_BYTES}
use Rattle.dft_top.specs.Checks.{ConfigText}
use Rattle.dft_top.proofs.loading.load_config.Goals as goal

pub returns-in_err-text : goal.returns-in_err-text
returns-in_err-text g c =
    let stops : c.from_residual.result ≡ Err c.in_err-text.field-0.0 = search rules in
    text_stops MAX_CONFIG_BYTES (codes "config") ConfigText c.args.name.now _ _ c.in_err-text.field-0.0 _ c.in_err-text.ensures.takes stops

pub returns : goal.returns
returns g c = text_takes MAX_CONFIG_BYTES (codes "config") ConfigText c.args.name.now _ _ _ c.in_ok-text.text _ c.in_ok-text.ensures.takes c.as_slice.ensures.value c.config_in.ensures.given
