-- The pulse has the plan's key.
use Rattle.std.proofs.Common.{◌∙◌, ap, refl, arith, subst}
use Rattle.dft_logic.specs.Circuit.{Circuit, IsCircuit}
use Rattle.std.proofs.lemmas.List.{get_or_past}
use Rattle.dft_base.specs.declared.tri.Tri.TheVariants.{Unknown}
use Rattle.dft_cycle.proofs.PassLemmas.{passed}
use Rattle.dft_cycle.proofs.plans.Plan.find.Goals as goal

pub returns : goal.returns
returns c = λ yes.
    (let made = c.requires.plan.made (c.is_made.ensures c.if-not-is_made.false) in
    record {
      can = made.can;
      few = made.takings.few;
      live = made.takings.live;
      passed = λ new put.
          passed c.args.phase.circuit.now c.args.phase.clocks.now c.args.phase.pulse.old.now.layout c.args.pins.now c.args.self.now _ c.settle_steps.new.values c.find_values.new.row c.args.phase.pulse.old.now.values new (subst IsCircuit c.circuit.view_is c.circuit.invariant) c.requires.pins
          made c.requires.among (λ k far. get_or_past c.args.phase.pulse.ports.now k Unknown (omega (arith, c.requires.ports, far))) (λ k. refl) c.requires.loose
          (c.settle_steps.auto.values ∙ c.requires.values)
          (c.fits.ensures.edge c.if-not-fits.false) (c.fits.ensures.pulsed c.if-not-fits.false) (c.fits.ensures.ports c.if-not-fits.false) (c.fits.ensures.enables c.if-not-fits.false)
          (rw c.deref.ensures.value at c.settle_steps.ensures) (rw (c.deref-3.ensures.value, c.deref-2.ensures.value, ap (λ (m : Circuit). m.flops) c.circuit.view_is) at c.find_values.ensures) c.requires.cells put;
    })
