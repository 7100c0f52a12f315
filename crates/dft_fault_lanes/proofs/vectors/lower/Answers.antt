-- One flag more is down.
use Rattle.std.proofs.Common.{arith}
use Rattle.dft_fault_lanes.proofs.InputLemmas.{lower_more, all_low}
use Rattle.dft_fault_lanes.proofs.vectors.lower.Goals as goal

pub loop-place-preserved : goal.loop-place-preserved
loop-place-preserved c = lower_more c.loop-place.flags c.loop-place.place (omega (arith, c.loop-place-test.true, c.loop-place.auto.flags)) c.loop-place.invariant

pub returns : goal.returns
returns c = all_low c.loop-place.flags c.loop-place.place (omega (arith, c.loop-place-test.false, c.loop-place.auto.flags)) c.loop-place.invariant
