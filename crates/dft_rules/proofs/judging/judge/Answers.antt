use Rattle.std.proofs.Common.{◌≡◌, ◌∙◌, ap, arith, length, List, Option, []}
use Rattle.std.proofs.lemmas.List.FromFn.{length-map-range_with_len}
use Rattle.std.proofs.lemmas.Result.{err_from_is_err_and}
use Rattle.dft_rules.specs.declared.judged.Judged.{Judged}
use Rattle.dft_rules.specs.Refusals.{too_few}
use Rattle.dft_rules.specs.Rules.{judged, judgements}
use Rattle.dft_rules.proofs.CheckLemmas.{at_end, refused_by}
use Rattle.dft_rules.proofs.judging.judge.Goals as goal

pub check_count-requires : goal.check_count-requires
check_count-requires c =
    let n = c.args.design.now in
    let config = c.args.config.now in
    let same : c.deref.result.now ≡ judgements n config = c.deref.ensures.value ∙ c.in_ok-verdicts.ensures config c.in_ok-found.ensures.found in
    let size : length c.deref.result.now ≡ length n.instances = ap (λ (xs : List (Option Judged)). length xs) same ∙ length-map-range_with_len (judged n config) 0 (length n.instances) in
    omega (arith, c.in_ok-found.ensures.fits.few)

pub returns-in_err-check_count-clause-refused : goal.returns-in_err-check_count-clause-refused
returns-in_err-check_count-clause-refused c =
    let n = c.args.design.now in
    let config = c.args.config.now in
    let p = err_from_is_err_and c.from_residual-in_err-check_count.result c.from_residual-in_err-check_count.ensures.1 in
    let same : c.deref.result.now ≡ judgements n config = c.deref.ensures.value ∙ c.in_ok-verdicts.ensures config c.in_ok-found.ensures.found in
    rw (p.1, p.2) (refused_by n config (too_few (judgements n config) config.chains) [] c.in_err-check_count.field-0.0 c.in_ok-found.ensures.passed (rw (same, c.chains.ensures) at c.in_err-check_count.ensures.refused))

pub returns-clause-judged : goal.returns-clause-judged
returns-clause-judged c = c.in_ok-verdicts.ensures c.args.config.now c.in_ok-found.ensures.found

pub returns-clause-accepted : goal.returns-clause-accepted
returns-clause-accepted c =
    let n = c.args.design.now in
    let config = c.args.config.now in
    let same : c.deref.result.now ≡ judgements n config = c.deref.ensures.value ∙ c.in_ok-verdicts.ensures config c.in_ok-found.ensures.found in
    at_end n config c.in_ok-found.ensures.passed (rw (same, c.chains.ensures) at c.in_ok-check_count.ensures.ok)
