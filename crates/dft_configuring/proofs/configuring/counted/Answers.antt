-- What is counted of the configuration is counted of what is read.
use Rattle.std.proofs.Common.{◌∙◌, ap, subst, sym}
use Rattle.std.proofs.lemmas.Result.{err_from_is_err_and}
use Rattle.dft_config.specs.Config.{Config}
use Rattle.dft_rules.specs.Refusals as rules
use Rattle.dft_stitch.specs.Chains.{plan_of}
use Rattle.dft_stitch.specs.Limits as limits
use Rattle.dft_insert.specs.declared.style.Style.TheVariants.{Edt}
use Rattle.dft_insert.specs.Refusals.{refusal}
use Rattle.dft_configuring.specs.Causes.{IsInsertion}
use Rattle.dft_configuring.specs.Counted.{counts_of}
use Rattle.dft_configuring.proofs.configuring.counted.Goals as goal

pub count_inserted-requires-clause-passed : goal.count_inserted-requires-clause-passed
count_inserted-requires-clause-passed c = ap (rules.refusal c.args.design.now) c.config.ensures ∙ c.requires.passed

pub count_inserted-requires-clause-fits : goal.count_inserted-requires-clause-fits
count_inserted-requires-clause-fits c = ap (limits.refusal c.args.design.now) c.config.ensures ∙ c.requires.fits

pub returns-in_err-counts-clause-refused : goal.returns-in_err-counts-clause-refused
returns-in_err-counts-clause-refused c =
    let n = c.args.design.now in
    let p = err_from_is_err_and c.from_residual.result c.from_residual.ensures.1 in
    rw (p.1, p.2) (subst (λ (g : Config). IsInsertion (refusal Edt n g (plan_of n g)) c.in_err-counts.field-0.0) c.config.ensures c.in_err-counts.ensures.refused)

pub returns-clause-counts : goal.returns-clause-counts
returns-clause-counts c = c.with_counts.ensures.counts ∙ c.in_ok-counts.ensures.counts ∙ ap (counts_of c.args.design.now) c.config.ensures

pub returns-clause-inserted : goal.returns-clause-inserted
returns-clause-inserted c = let n = c.args.design.now in ap (λ (g : Config). refusal Edt n g (plan_of n g)) (sym c.config.ensures) ∙ c.in_ok-counts.ensures.ok
