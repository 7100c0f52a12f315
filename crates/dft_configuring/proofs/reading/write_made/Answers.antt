-- The text is read as what was made.
use Rattle.std.proofs.Common.{◌≡◌, ◌<◌, ◌≤◌, ◌^◌, ◌∙◌, ℕ, List, length, arith, subst}
use Rattle.std.proofs.lemmas.Result.{err_from_is_err_and}
use Rattle.dft_config_text.specs.Refusals.{IsConfig}
use Rattle.dft_config_out.specs.Written.{made_text}
use Rattle.dft_configuring.specs.Causes.{IsLong}
use Rattle.dft_configuring.proofs.reading.write_made.Goals as goal

pub returns-in_err-config-clause-refused : goal.returns-in_err-config-clause-refused
returns-in_err-config-clause-refused c =
    let p = err_from_is_err_and c.from_residual-in_err-config.result c.from_residual-in_err-config.ensures.1 in
    rw (p.1, p.2) (subst (λ (l : List ℕ). IsLong l c.in_err-config.field-0.0) (c.deref.ensures.value ∙ c.in_ok-text.ensures) c.in_err-config.ensures.refused)

pub returns-clause-written : goal.returns-clause-written
returns-clause-written c =
    let cells = c.args.cells in
    let made = c.args.made.now in
    let config = c.in_ok-config.config in
    let bytes = c.deref.result.now in
    let low : cells < 2 ^ 32 = omega arith in
    let text : bytes ≡ made_text cells made = c.deref.ensures.value ∙ c.in_ok-text.ensures in
    let read : IsConfig bytes config = c.in_ok-config.ensures.config in
    let short : length bytes ≤ 67108864 = c.in_ok-config.ensures.short in
    record {
      config = c.text_is_read.ensures.other cells made config low c.requires (subst (λ (l : List ℕ). IsConfig l config) text read);
      text = c.in_ok-text.ensures;
      read = subst (λ (l : List ℕ). IsConfig l config) c.deref.ensures.value read;
      short = subst (λ (l : List ℕ). length l ≤ 67108864) c.deref.ensures.value short;
    }
