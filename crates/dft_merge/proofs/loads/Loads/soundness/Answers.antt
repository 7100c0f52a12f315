-- What is known of the planned design, and that its load equations fit its chains.
use Rattle.std.proofs.Common.{◌≡◌, refl, subst}
use Rattle.dft_stitch.specs.Chains.{plan_of}
use Rattle.dft_stitch.specs.Plans.{falling_head}
use Rattle.dft_merge.specs.LoadPlan.{LoadPlan}
use Rattle.dft_merge.specs.Slots.{AreRows}
use Rattle.dft_merge.proofs.MergerLemmas.{rows_are}
use Rattle.dft_merge.proofs.loads.Loads.soundness.Goals as goal

pub returns-clause-fits : goal.returns-clause-fits
returns-clause-fits c = rw (← c.self.view_is) c.soundness.ensures.fits

pub returns-clause-planned : goal.returns-clause-planned
returns-clause-planned c = subst (λ (l : LoadPlan). l.plan ≡ plan_of l.design l.config) c.self.view_is refl

pub returns-clause-rows : goal.returns-clause-rows
returns-clause-rows c =
    let n = c.self.inside.planned.design in
    let config = c.self.inside.planned.config in
    let plan = plan_of n config in
    let rows = c.self.inside.equations in
    subst (λ (l : LoadPlan). AreRows l.plan.chains l.rows) c.self.view_is (rows_are config.ring plan.chains (falling_head plan) plan.cycles rows c.self.invariant (c.plans_stand_apart.ensures n config c.soundness.ensures.range))
