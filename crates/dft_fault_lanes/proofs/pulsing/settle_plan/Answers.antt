-- The nets that a plan needs are settled.
use Rattle.std.proofs.Common.{◌∙◌, take}
use Rattle.dft_fault_lanes.specs.Pulses.{at_levels}
use Rattle.dft_fault_lanes.proofs.PlanLemmas.{settled_needs}
use Rattle.dft_fault_lanes.proofs.pulsing.settle_plan.Goals as goal

pub front-requires : goal.front-requires
front-requires c = rw c.deref.ensures.value c.requires.room

pub settle-requires-clause-ordered : goal.settle-requires-clause-ordered
settle-requires-clause-ordered c = rw (c.front.ensures, c.deref.ensures.value) c.requires.ordered

pub returns-clause-settled : goal.returns-clause-settled
returns-clause-settled c =
    let x = c.args.play.circuit.now in
    let p = c.args.play.plan.now in
    settled_needs x (at_levels c.args.play.ports.now c.args.levels.now c.args.cells.now.values c.args.play.clamps.now) p.marked.items (take p.count p.list.items) c.settle.new.wides (c.settle.auto.wides ∙ c.requires.nets) c.requires.clamped c.requires.listed
    (rw (c.front.ensures, c.deref.ensures.value) at c.settle.ensures.settled)
