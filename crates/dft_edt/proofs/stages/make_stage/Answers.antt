use Rattle.std.proofs.Common.{◌≡◌, Ok, List, length, sym, subst, ap, ◌∙◌}
use Rattle.std.proofs.lemmas.Result.{err_from_is_err_and}
use Rattle.dft_netlist.specs.declared.ids.NetId.{NetId}
use Rattle.dft_parts.specs.Recipes.{AreThere, outcome, IsRefusal}
use Rattle.dft_parts.specs.Sums.{a_sum}
use Rattle.dft_edt.specs.RingRecipe.{stage_terms}
use Rattle.dft_edt.proofs.Made.{stage_made, stage_sum_refused, stage_gate_refused}
use Rattle.dft_edt.proofs.stages.make_stage.Goals as goal

pub sum-requires-clause-there : goal.sum-requires-clause-there
sum-requires-clause-there c =
    let n = c.args.parts.now.netlist in
    subst (AreThere n) (sym c.deref.ensures.value) (c.in_ok-terms.ensures.below (length n.nets) c.requires.there (subst (AreThere n) (sym c.as_slice.ensures) c.requires.fed))

pub returns-in_err-sum-clause-makes : goal.returns-in_err-sum-clause-makes
returns-in_err-sum-clause-makes c =
    let p = err_from_is_err_and c.from_residual-in_err-sum.result c.from_residual-in_err-sum.ensures.1 in
    let terms = c.deref.ensures.value ∙ c.in_ok-terms.ensures.nets ∙ ap (λ (cs : List NetId). stage_terms c.args.ring.now cs c.args.stages.now c.args.stage) c.as_slice.ensures in
    rw (p.1, p.2)
    (stage_sum_refused c.args.ring.now c.args.ports.now c.args.run c.args.stages.now c.args.stage c.args.parts.now c.in_err-sum.field-0.0
    (subst (λ (xs : List NetId). IsRefusal (outcome (a_sum xs) c.args.parts.now) c.in_err-sum.field-0.0) terms c.in_err-sum.ensures.makes))

pub returns-in_err-kept-clause-makes : goal.returns-in_err-kept-clause-makes
returns-in_err-kept-clause-makes c =
    let p = err_from_is_err_and c.from_residual-in_err-kept.result c.from_residual-in_err-kept.ensures.1 in
    let terms = c.deref.ensures.value ∙ c.in_ok-terms.ensures.nets ∙ ap (λ (cs : List NetId). stage_terms c.args.ring.now cs c.args.stages.now c.args.stage) c.as_slice.ensures in
    rw (p.1, p.2)
    (stage_gate_refused c.args.ring.now c.args.ports.now c.args.run c.args.stages.now c.args.stage c.args.parts.now c.sum.new.self c.in_ok-sum.sum c.in_err-kept.field-0.0
    (subst (λ (xs : List NetId). outcome (a_sum xs) c.args.parts.now ≡ Ok (c.in_ok-sum.sum, c.sum.new.self)) terms c.in_ok-sum.ensures.makes) c.in_err-kept.ensures.makes)

pub returns-clause-makes : goal.returns-clause-makes
returns-clause-makes c =
    let terms = c.deref.ensures.value ∙ c.in_ok-terms.ensures.nets ∙ ap (λ (cs : List NetId). stage_terms c.args.ring.now cs c.args.stages.now c.args.stage) c.as_slice.ensures in
    stage_made c.args.ring.now c.args.ports.now c.args.run c.args.stages.now c.args.stage c.args.parts.now c.sum.new.self c.driving_gate.new.self c.in_ok-sum.sum c.in_ok-kept.kept c.flop.result c.flop.new.self
    (subst (λ (xs : List NetId). outcome (a_sum xs) c.args.parts.now ≡ Ok (c.in_ok-sum.sum, c.sum.new.self)) terms c.in_ok-sum.ensures.makes) c.in_ok-kept.ensures.makes c.flop.ensures.makes
