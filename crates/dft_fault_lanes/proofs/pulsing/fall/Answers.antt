-- No cell falls, or nets are settled with the clocks up and cells take their values.
use Rattle.std.proofs.Common.{◌∙◌, inl, inr, sym, refl}
use Rattle.dft_fault_lanes.proofs.PlanLemmas.{no_falls, no_items}
use Rattle.dft_fault_lanes.proofs.pulsing.fall.Goals as goal

pub returns-then-not-is_empty-clause-fall : goal.returns-then-not-is_empty-clause-fall
returns-then-not-is_empty-clause-fall c = inr (c.settle_plan-known.new.wides, (rw c.deref.ensures.value at c.settle_plan-known.ensures.settled, c.fall_with.ensures.phase))

pub returns-else-not-is_empty-clause-fall : goal.returns-else-not-is_empty-clause-fall
returns-else-not-is_empty-clause-fall c = inl (no_falls c.args.play.circuit.now c.args.play.clamps.now c.args.cells.now.layout c.requires.plan.0 c.args.play.plan.now c.requires.plan.1 (no_items c.args.play.plan.now.falling.items _ c.args.play.plan.now.falling.ok.0 (sym c.is_empty.ensures ∙ c.if-not-is_empty.false)), (refl, refl))

pub settle_plan-known-requires-clause-room : goal.settle_plan-known-requires-clause-room
settle_plan-known-requires-clause-room c = c.requires.plan.1.room

pub settle_plan-known-requires-clause-ordered : goal.settle_plan-known-requires-clause-ordered
settle_plan-known-requires-clause-ordered c = c.requires.plan.1.ordered

pub settle_plan-known-requires-clause-listed : goal.settle_plan-known-requires-clause-listed
settle_plan-known-requires-clause-listed c = c.requires.plan.1.listed
