-- One plan more is for no clock.
use Rattle.std.proofs.Common.{ℕ, List, [], ◌∷◌, ◌+◌, ◌∙◌, All, sym, ap, subst, length, length-append}
use Rattle.std.proofs.lemmas.List.Elements.{All-push}
use Rattle.dft_cycle.specs.declared.plans.Plan.{Plan}
use Rattle.dft_cycle.specs.Plans.{IsPlan}
use Rattle.dft_cycle.proofs.preparing.plans.Goals as goal

pub loop-place-preserved : goal.loop-place-preserved
loop-place-preserved c =
    let e = c.in_ok-push.ensures.items in (
      λ layout. (let P : Plan → Type 0 = IsPlan c.args.circuit.now c.args.clocks.now layout c.args.pins.now in
          subst (λ (l : List Plan). All P l) (sym e) (All-push P c.loop-place.plans.items c.in_ok-plan.field-0 (c.loop-place.invariant.0 layout) (c.in_ok-plan.ensures layout))),
      ap length e ∙ length-append c.loop-place.plans.items (c.in_ok-plan.field-0 ∷ []) ∙ ap (λ (n : ℕ). n + 1) c.loop-place.invariant.1,
    )
