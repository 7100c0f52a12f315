use Rattle.std.proofs.Common.{refl, sym, ◌∙◌, arith}
use Rattle.dft_hier.proofs.WalkLemmas.{begins, whole_order, whole_live}
use Rattle.dft_hier.proofs.descent.descend.Goals as goal

pub loop-number-init : goal.loop-number-init
loop-number-init c = rw c.in_ok-descent.ensures (begins c.args.children.now _ refl)

pub returns-clause-live : goal.returns-clause-live
returns-clause-live c = rw c.into_descended.ensures.order (whole_live c.args.children.now c.loop-number.number c.loop-number.descent c.loop-number.invariant)

pub returns-clause-order : goal.returns-clause-order
returns-clause-order c =
    let past = c.loop-number-test.false in
    let end = c.loop-number.auto.number-end in
    λ none. rw c.into_descended.ensures.order (whole_order c.args.children.now c.loop-number.number c.loop-number.descent (omega arith) c.loop-number.invariant (sym c.into_descended.ensures.circle ∙ none))
