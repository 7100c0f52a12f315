-- One register more.
use Rattle.std.proofs.Common.{◌<◌, length, arith}
use Rattle.dft_fault_lanes.proofs.MoveLemmas.{raised_more, raised_ends}
use Rattle.dft_fault_lanes.proofs.moves.raise.Goals as goal

pub loop-number-preserved : goal.loop-number-preserved
loop-number-preserved c =
    let less : c.loop-number.number < length c.loop-number.moves = omega (arith, c.loop-number.auto.moves, c.loop-number-test.true) in
    raised_more c.loop-number.moves c.loop-number.number less c.loop-number.invariant

pub returns : goal.returns
returns c = raised_ends c.loop-number.moves c.loop-number.number (omega (arith, c.loop-number.auto.moves, c.loop-number-test.false)) c.loop-number.invariant
