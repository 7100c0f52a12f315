use Rattle.std.proofs.lemmas.Result.{err_from_is_err_and}
use Rattle.dft_rules.specs.Refusals.{refusal}
use Rattle.dft_configuring.proofs.PlanLemmas.{rule_refused}
use Rattle.dft_configuring.proofs.checking.ask_rules.Goals as goal

pub returns-in_err-judge-clause-refused : goal.returns-in_err-judge-clause-refused
returns-in_err-judge-clause-refused c =
    let p = err_from_is_err_and c.from_residual.result c.from_residual.ensures.1 in
    rw (p.1, p.2) (rule_refused (refusal c.args.design.now c.args.config.now) c.in_err-judge.field-0.0 c.in_err-judge.ensures.refused)
