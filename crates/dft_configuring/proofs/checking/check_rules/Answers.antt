use Rattle.std.proofs.Common.{◌≡◌, None, option_map, subst}
use Rattle.std.specs.Prelude.{OnOk, IfErr}
use Rattle.std.proofs.lemmas.Result.{IfErr-weaker, err_from_is_err_and, on_ok_weaker}
use Rattle.dft_config.specs.Config.{Config}
use Rattle.dft_rules.specs.Refusals.{refusal}
use Rattle.dft_configuring.specs.declared.error.ConfigureError.TheVariants.{Rules}
use Rattle.dft_configuring.specs.Causes.{IsCheck}
use Rattle.dft_configuring.specs.Refusals.{asked}
use Rattle.dft_configuring.specs.Rooted.{rooted, rooted_text}
use Rattle.dft_configuring.proofs.CheckLemmas.{asked_none, asked_refused, long_check}
use Rattle.dft_configuring.proofs.checking.check_rules.Goals as goal

pub returns-in_err-config-clause-refused : goal.returns-in_err-config-clause-refused
returns-in_err-config-clause-refused c =
    let n = c.args.design.now in
    let p = err_from_is_err_and c.from_residual.result c.from_residual.ensures.1 in
    rw (p.1, p.2) (long_check (rooted_text n c.args.chains) (option_map Rules (refusal n (rooted n c.args.chains))) c.in_err-config.field-0.0 c.in_err-config.ensures.refused)

pub returns-clause-ok : goal.returns-clause-ok
returns-clause-ok c = subst (λ (config : Config). OnOk c.ask_rules.result (refusal c.args.design.now config ≡ None)) c.in_ok-config.ensures.config c.ask_rules.ensures.ok

pub returns-clause-none : goal.returns-clause-none
returns-clause-none c =
    let n = c.args.design.now in
    let passed = subst (λ (config : Config). OnOk c.ask_rules.result (refusal n config ≡ None)) c.in_ok-config.ensures.config c.ask_rules.ensures.ok in
    on_ok_weaker c.ask_rules.result (asked_none n c.args.chains c.in_ok-config.ensures.short) passed

pub returns-clause-refused : goal.returns-clause-refused
returns-clause-refused c =
    let n = c.args.design.now in
    let refused = subst (λ (config : Config). IfErr c.ask_rules.result (IsCheck (option_map Rules (refusal n config)))) c.in_ok-config.ensures.config c.ask_rules.ensures.refused in
    IfErr-weaker c.ask_rules.result (IsCheck (option_map Rules (refusal n (rooted n c.args.chains)))) (IsCheck (asked n c.args.chains)) (λ error is. asked_refused n c.args.chains error c.in_ok-config.ensures.short is) refused
