-- One port more is 1.
use Rattle.std.proofs.Common.{◌∙◌, inr, sym}
use Rattle.std.proofs.lemmas.List.{get_or_default}
use Rattle.dft_fault_lanes.proofs.GroupLemmas.{one_is}
use Rattle.dft_fault_lanes.proofs.PlanLemmas.{ones_more, ones_all}
use Rattle.dft_fault_lanes.proofs.forces.are_ones.Goals as goal

pub loop-net-init : goal.loop-net-init
loop-net-init c = λ net h. inr h

pub loop-net-preserved : goal.loop-net-preserved
loop-net-preserved c =
    ones_more c.args.forces.now c.args.ports.now c.loop-net.net-index _ c.loop-net-test.true (get_or_default c.args.forces.now c.loop-net.net-index _ _ c.loop-net-test.true)
    (sym c.value_at.ensures ∙ one_is c.value_at.result (sym c.is_one.ensures ∙ c.if-not-is_one.false)) c.loop-net.invariant

pub returns : goal.returns
returns c = λ up net h. ones_all c.args.forces.now c.args.ports.now c.loop-net.net-index c.loop-net-test.false c.loop-net.invariant net h
