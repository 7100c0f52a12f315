use Rattle.std.proofs.Common.{◌≤◌, length, List, Bool, ◌∙◌, false, get_or, sym, ap, arith}
use Rattle.dft_config_text.specs.Checks.{first_unreached, is_reached}
use Rattle.dft_config_text.proofs.CheckLemmas.{first_not_same, reached_past}
use Rattle.dft_config_text.proofs.checks.first_unreached.Goals as goal

pub returns : goal.returns
unfolding first_unreached
returns c =
    let past : length c.args.draft.now.compactor.groups ≤ c.loop-group.group-index = omega (arith, ap length c.as_slice-group-items.ensures) in
    let marked = c.loop-group.invariant in
    c.first_unmarked.ensures
    ∙ first_not_same (λ k. get_or c.deref.result.now k false) (is_reached c.args.draft.now.compactor.groups) 0 c.args.draft.now.loading.chains
    (λ k less.
    ap (λ (l : List Bool). get_or l k false) c.deref.ensures.value
    ∙ sym (marked.same k (omega (arith, marked.marks)) ∙ reached_past c.args.draft.now.compactor.groups c.loop-group.group-index k (get_or c.loop-group.reached.items k false) past))
