use Rattle.std.proofs.Common.{◌∙◌, ap, subst, sym}
use Rattle.std.proofs.lemmas.Result.{err_from_is_err_and}
use Rattle.dft_rules.specs.Refusals as rules
use Rattle.dft_scan_frame.specs.Refusals as frame
use Rattle.dft_insert.specs.declared.style.Style.TheVariants.{Edt}
use Rattle.dft_insert.specs.Refusals.{refusal}
use Rattle.dft_stitch.specs.Chains.{plan_of}
use Rattle.dft_stitch.specs.Limits as limits
use Rattle.dft_stitch.specs.Planning.{Planned}
use Rattle.dft_stitch.specs.Plans.{Plan}
use Rattle.dft_configuring.specs.Counted.{counts_of}
use Rattle.dft_configuring.proofs.PlanLemmas.{insertion_error, none_planned}
use Rattle.dft_configuring.proofs.configuring.count_inserted.Goals as goal

pub returns-in_err-planned-clause-refused : goal.returns-in_err-planned-clause-refused
returns-in_err-planned-clause-refused c =
    let n = c.args.design.now in
    let config = c.args.config.now in
    let p = err_from_is_err_and c.from_residual.result c.from_residual.ensures.1 in
    rw (p.1, p.2) (none_planned (refusal Edt n config (plan_of n config)) (rules.refusal n config) (limits.refusal n config) c.in_err-planned.field-0.0 c.requires.passed c.requires.fits c.in_err-planned.ensures.refused)

pub insert-requires-clause-planned : goal.insert-requires-clause-planned
insert-requires-clause-planned c = rw c.in_ok-planned.ensures.planned at c.chains.ensures

pub returns-in_err-insert-clause-refused : goal.returns-in_err-insert-clause-refused
returns-in_err-insert-clause-refused c =
    let n = c.args.design.now in
    let config = c.args.config.now in
    let error = c.in_err-insert.field-0.0 in
    let p = err_from_is_err_and c.from_residual-in_err-insert.result c.from_residual-in_err-insert.ensures.1 in
    let planned = rw c.in_ok-planned.ensures.planned at c.chains.ensures in
    let P : Plan → Type 0 = λ q. frame.IsRefusal (refusal Edt n config q) error in
    rw (p.1, p.2) (insertion_error (refusal Edt n config (plan_of n config)) error (subst P planned c.in_err-insert.ensures.refused))

pub returns-clause-ok : goal.returns-clause-ok
returns-clause-ok c =
    let n = c.args.design.now in
    let config = c.args.config.now in
    let planned = rw c.in_ok-planned.ensures.planned at c.chains.ensures in
    ap (refusal Edt n config) (sym planned) ∙ c.in_ok-insert.ensures.accepted

pub returns-clause-counts : goal.returns-clause-counts
returns-clause-counts c = c.counts_of.ensures ∙ ap (λ (p : Planned). counts_of p.design p.config) c.in_ok-planned.ensures.planned
