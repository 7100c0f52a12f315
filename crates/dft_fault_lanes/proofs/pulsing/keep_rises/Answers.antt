-- All lanes stay live, or those in which cells read what is still.
use Rattle.std.proofs.Common.{ap}
use Rattle.dft_logic.specs.Circuit.{Circuit}
use Rattle.dft_fault_lanes.proofs.MoveLemmas.{all_steady_by, keeps_known}
use Rattle.dft_fault_lanes.proofs.pulsing.keep_rises.Goals as goal

pub returns-then-not-plan-clause-steady : goal.returns-then-not-plan-clause-steady
returns-then-not-plan-clause-steady c =
    keeps_known c.args.play.circuit.now c.args.play.clamps.now c.args.held.now.layout c.requires.plan.0 c.args.play.plan.now c.args.held.now.values c.args.wides.now c.args.live.now c.keep_steady.new.live c.requires.plan.1 c.requires.nets c.requires.steers
    (rw (c.deref.ensures.value, ap (λ (m : Circuit). m.flops) c.circuit.view_is, c.deref-then-not-plan.ensures.value, c.deref-then-not-plan-2.ensures.value) at c.keep_steady.ensures.steady)

pub returns-else-not-plan-clause-steady : goal.returns-else-not-plan-clause-steady
returns-else-not-plan-clause-steady c =
    all_steady_by c.args.play.circuit.now c.args.play.clamps.now c.args.held.now.layout c.requires.plan.0 c.args.play.plan.now c.args.held.now.values c.args.wides.now c.args.live.now c.requires.plan.1 c.requires.nets c.if-not-plan.false c.requires.steers
