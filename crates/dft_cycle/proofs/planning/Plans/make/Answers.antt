-- All flip-flops have entries.
use Rattle.std.proofs.Common.{length, ap, ◌∙◌, arith, rules}
use Rattle.std.proofs.lemmas.List.{get_or_past, length-set}
use Rattle.std.proofs.lemmas.List.Elements.{All-set}
use Rattle.dft_base.specs.declared.tri.Tri.TheVariants.{Unknown}
use Rattle.dft_base.proofs.ListLemmas.{refilled_items}
use Rattle.dft_takings.specs.EntryTables.{origin_at, entry_at}
use Rattle.dft_takings.specs.ShownTables.{shown_at}
use Rattle.dft_cycle.specs.Plans.{IsPlan}
use Rattle.dft_cycle.proofs.PassLemmas.{plan_made}
use Rattle.dft_cycle.proofs.planning.Plans.make.Goals as goal

pub returns-then-draw-clause-plans : goal.returns-then-draw-clause-plans
returns-then-draw-clause-plans c =
    let p = c.args.self.now in
    let made = plan_made c.args.phase.circuit.now c.args.phase.clocks.now c.args.phase.pulse.old.now.layout p.pins _ c.draw.new.values (origin_at c.draw.new.sketch.origins.items) (shown_at c.draw.new.sketch.shown.items) (entry_at c.draw.new.sketch.entries.items) c.index_mut-plan.result.now c.fill.new.self c.note.new.self
    (search rules) (rw c.deref.ensures.value at c.fill.ensures.filled) c.note.ensures (c.draw.auto.values ∙ c.requires.values) (λ k far. get_or_past c.args.phase.pulse.ports.now k Unknown (omega (arith, c.requires.ports, far)))
    c.requires.among c.draw.ensures.origins c.draw.ensures.shows (c.draw.ensures.entries c.if-draw.true) in
    record {
      pins = c.requires.plans.pins;
      sketch = c.draw.ensures.sketch;
      list = ap length (refilled_items p.list c.fill.new.list c.deref_mut.result.now c.fill.auto.list c.deref_mut.ensures.value) ∙ c.fill.auto.list ∙ ap length c.deref_mut.ensures.value ∙ c.requires.plans.list;
      plans = All-set (IsPlan c.args.phase.circuit.now c.args.phase.clocks.now c.args.phase.pulse.old.now.layout p.pins) p.plans.items c.args.place c.note.new.self made c.requires.plans.plans;
      some = omega (arith, length-set p.plans.items c.args.place c.note.new.self, c.requires.plans.some);
    }
