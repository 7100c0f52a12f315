-- Those lanes stay live in which cells read what is still.
use Rattle.std.proofs.Common.{ap}
use Rattle.dft_logic.specs.Circuit.{Circuit}
use Rattle.dft_fault_lanes.proofs.PlanLemmas.{keeps_after}
use Rattle.dft_fault_lanes.proofs.pulsing.keep_falls.Goals as goal

pub returns-clause-steady : goal.returns-clause-steady
returns-clause-steady c =
    keeps_after c.args.play.circuit.now c.args.play.clamps.now c.args.held.now.layout c.requires.plan.0 c.args.play.plan.now c.args.known c.args.wides.now c.args.live.now c.live_where.new.live c.keep_steady.new.live c.requires.plan.1 c.requires.steers c.live_where.ensures.live
    (rw (c.deref.ensures.value, ap (λ (m : Circuit). m.flops) c.circuit.view_is, c.deref-2.ensures.value, c.deref-3.ensures.value) at c.keep_steady.ensures.steady)
