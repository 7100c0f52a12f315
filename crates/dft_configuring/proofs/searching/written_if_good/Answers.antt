-- What is made is good, or not, as its configuration is that is read.
use Rattle.std.proofs.Common.{◌≡◌, ◌≤◌, ◌∙◌, Bool, ℕ, List, Some, option_map, ap, length, subst, sym}
use Rattle.std.proofs.lemmas.Result.{err_from_is_err_and}
use Rattle.dft_config.specs.Config.{Config}
use Rattle.dft_config_out.specs.Written.{config_of, made_text}
use Rattle.dft_rules.specs.Refusals as rules
use Rattle.dft_stitch.specs.Limits.{refusal}
use Rattle.dft_configuring.specs.declared.error.ConfigureError.{ConfigureError}
use Rattle.dft_configuring.specs.declared.error.ConfigureError.TheVariants.{Stitch}
use Rattle.dft_configuring.specs.Causes.{IsLimit, IsLong}
use Rattle.dft_configuring.specs.Rooted.{cell_count}
use Rattle.dft_configuring.specs.Searching.{IsBad, IsGood, tried}
use Rattle.dft_configuring.specs.Steps.{IsGoodWhere}
use Rattle.dft_configuring.proofs.PlanLemmas.{tried_limit, tried_long, tried_none}
use Rattle.dft_configuring.proofs.searching.written_if_good.Goals as goal

pub returns-in_err-written-clause-refused : goal.returns-in_err-written-clause-refused
unfolding tried
returns-in_err-written-clause-refused c =
    let n = c.args.design.now in
    let made = c.args.made.now in
    let p = err_from_is_err_and c.from_residual.result c.from_residual.ensures.1 in
    let long = subst (λ (cells : ℕ). IsLong (made_text cells made) c.in_err-written.field-0.0) c.requires.cells c.in_err-written.ensures.refused in
    rw (p.1, p.2) (tried_long (made_text (cell_count n) made) (refusal n (config_of made)) c.in_err-written.field-0.0 long)

pub are_good-requires : goal.are_good-requires
are_good-requires c = ap (rules.refusal c.args.design.now) (c.config.ensures ∙ c.in_ok-written.ensures.written.config) ∙ c.requires.passed

pub returns-in_err-good-clause-refused : goal.returns-in_err-good-clause-refused
unfolding tried
returns-in_err-good-clause-refused c =
    let n = c.args.design.now in
    let made = c.args.made.now in
    let written = c.in_ok-written.ensures.written in
    let p = err_from_is_err_and c.from_residual-in_err-good.result c.from_residual-in_err-good.ensures.1 in
    let short : length (made_text (cell_count n) made) ≤ 67108864 = subst (λ (l : List ℕ). length l ≤ 67108864) (written.text ∙ ap (λ (cells : ℕ). made_text cells made) c.requires.cells) written.short in
    let limit = subst (λ (g : Config). IsLimit (λ (error : ConfigureError). option_map Stitch (refusal n g) ≡ Some error) c.in_err-good.field-0.0) (c.config.ensures ∙ written.config) c.in_err-good.ensures.refused in
    rw (p.1, p.2) (tried_limit (made_text (cell_count n) made) (refusal n (config_of made)) c.in_err-good.field-0.0 short limit)

pub returns-then-good-clause-fits : goal.returns-then-good-clause-fits
unfolding tried
returns-then-good-clause-fits c =
    let n = c.args.design.now in
    let made = c.args.made.now in
    let written = c.in_ok-written.ensures.written in
    let short : length (made_text (cell_count n) made) ≤ 67108864 = subst (λ (l : List ℕ). length l ≤ 67108864) (written.text ∙ ap (λ (cells : ℕ). made_text cells made) c.requires.cells) written.short in
    tried_none (made_text (cell_count n) made) (refusal n (config_of made)) short (ap (refusal n) (sym (c.config.ensures ∙ written.config)) ∙ c.in_ok-good.ensures.fits)

pub returns-else-good-clause-fits : goal.returns-else-good-clause-fits
unfolding tried
returns-else-good-clause-fits c =
    let n = c.args.design.now in
    let made = c.args.made.now in
    let written = c.in_ok-written.ensures.written in
    let short : length (made_text (cell_count n) made) ≤ 67108864 = subst (λ (l : List ℕ). length l ≤ 67108864) (written.text ∙ ap (λ (cells : ℕ). made_text cells made) c.requires.cells) written.short in
    tried_none (made_text (cell_count n) made) (refusal n (config_of made)) short (ap (refusal n) (sym (c.config.ensures ∙ written.config)) ∙ c.in_ok-good.ensures.fits)

pub returns-then-good-clause-found : goal.returns-then-good-clause-found
returns-then-good-clause-found c =
    let n = c.args.design.now in
    let good : IsGood n c.config.result.now = subst (λ (b : Bool). IsGoodWhere n c.config.result.now b) c.if-good.true c.in_ok-good.ensures.good in
    (c.in_ok-written.ensures.written, subst (IsGood n) (c.config.ensures ∙ c.in_ok-written.ensures.written.config) good)

pub returns-else-good-clause-found : goal.returns-else-good-clause-found
returns-else-good-clause-found c =
    let n = c.args.design.now in
    let bad : IsBad n c.config.result.now = subst (λ (b : Bool). IsGoodWhere n c.config.result.now b) c.if-good.false c.in_ok-good.ensures.good in
    subst (IsBad n) (c.config.ensures ∙ c.in_ok-written.ensures.written.config) bad
