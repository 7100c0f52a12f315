-- One lane more has its fault.
use Rattle.std.proofs.Common.{ℕ, false, ◌≡◌, ◌<◌, length, get_or, slice_get, Some, arith}
use Rattle.std.proofs.lemmas.Option.{slice_get-get_or, slice_get_within}
use Rattle.dft_faults.specs.declared.fault.Fault.{Fault}
use Rattle.dft_fault_lanes.proofs.StickLemmas.{stick_more}
use Rattle.dft_fault_lanes.proofs.clamps.stick.Goals as goal

pub loop-lane-preserved : goal.loop-lane-preserved
loop-lane-preserved c =
    let faults = c.args.faults.now in
    let lane : ℕ = c.loop-lane.lane in
    let fault : Fault = get_or faults lane (record { net = record { 0 = 0 }; value = false }) in
    let at : slice_get faults lane ≡ Some fault = slice_get-get_or faults lane _ c.loop-lane-test.true in
    let live : fault.net.0 < length c.loop-lane.clamps = (let l = c.requires.live lane fault at in omega (arith, l, c.loop-lane.auto.clamps)) in
    stick_more faults c.loop-lane.clamps (length c.args.clamps.now) lane fault (Some c.tightened-bounds.result) at live (omega (arith, c.loop-lane-test.true, c.requires.few)) c.tightened-bounds.ensures.bounds c.tightened-bounds.ensures.each c.loop-lane.invariant

pub returns-clause-stuck : goal.returns-clause-stuck
returns-clause-stuck c = λ lane fault at net given. c.loop-lane.invariant.stuck lane fault (let w = slice_get_within c.args.faults.now lane fault at in omega (arith, w, c.loop-lane-test.false)) at net given
