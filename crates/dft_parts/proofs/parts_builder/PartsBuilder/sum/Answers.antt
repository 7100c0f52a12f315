use Rattle.std.proofs.Common.{◌≡◌, Ok, subst, sym, List, arith, ◌∙◌}
use Rattle.std.proofs.lemmas.Result.{err_from_is_err_and}
use Rattle.dft_netlist.specs.declared.ids.NetId.{NetId}
use Rattle.dft_parts.specs.Recipes.{outcome, IsRefusal}
use Rattle.dft_parts.specs.Sums.{pairs}
use Rattle.dft_parts.proofs.Levels.{leveling_on, fewer, sum_refused, sum_made}
use Rattle.dft_parts.proofs.parts_builder.PartsBuilder.sum.Goals as goal

pub returns-in_err-left-2-clause-makes : goal.returns-in_err-left-2-clause-makes
returns-in_err-left-2-clause-makes c =
    let p = err_from_is_err_and c.from_residual-in_err-left-2.result c.from_residual-in_err-left-2.ensures.1 in
    rw (p.1, p.2)
    (sum_refused c.args.self.now c.loop-self.self c.args.terms.now c.loop-self.left.items c.in_err-left-2.field-0.0 c.loop-self.invariant (omega arith)
    (subst (λ (xs : List NetId). IsRefusal (outcome (pairs xs) c.loop-self.self) c.in_err-left-2.field-0.0) c.deref.ensures.value c.in_err-left-2.ensures.makes))

pub loop-self-smaller : goal.loop-self-smaller
loop-self-smaller c =
    fewer c.loop-self.left.items c.in_ok-left-2.left.items c.loop-self.self c.pairs.new.self (omega arith)
    (subst (λ (xs : List NetId). outcome (pairs xs) c.loop-self.self ≡ Ok (c.in_ok-left-2.left.items, c.pairs.new.self)) c.deref.ensures.value c.in_ok-left-2.ensures.makes)

pub loop-self-preserved : goal.loop-self-preserved
loop-self-preserved c =
    leveling_on c.args.self.now c.loop-self.self c.pairs.new.self c.args.terms.now c.loop-self.left.items c.in_ok-left-2.left.items c.loop-self.invariant (omega arith)
    (subst (λ (xs : List NetId). outcome (pairs xs) c.loop-self.self ≡ Ok (c.in_ok-left-2.left.items, c.pairs.new.self)) c.deref.ensures.value c.in_ok-left-2.ensures.makes) c.in_ok-left-2.ensures.there c.in_ok-left-2.ensures.nets

pub returns-clause-makes : goal.returns-clause-makes
returns-clause-makes c =
    sum_made c.args.self.now c.loop-self.self c.args.terms.now c.loop-self.left.items c.index.result.now c.loop-self.invariant (omega arith)
    ∙ (λ i. Ok (sym c.index.ensures i, c.loop-self.self))
