-- Both bounds are the constant in the lane.
use Rattle.dft_fault_lanes.proofs.ClampLemmas.{tighter, unwrapped_is}
use Rattle.dft_fault_lanes.proofs.clamps.tightened.Goals as goal

pub returns-clause-each : goal.returns-clause-each
returns-clause-each c =
    tighter c.args.bounds c.loose.result c.set_value.new.wide c.set_value-2.new.wide c.args.lane c.args.value c.known_bit.result c.known_bit-2.result c.loose.ensures.most c.loose.ensures.least c.known_bit.ensures c.known_bit-2.ensures
    (rw c.unwrap_or-bounds.ensures at c.set_value.ensures.each) (rw c.unwrap_or-bounds.ensures at c.set_value-2.ensures.each)

pub returns-clause-bounds : goal.returns-clause-bounds
returns-clause-bounds c =
    let all = unwrapped_is c.args.bounds c.loose.result c.requires.bounds c.loose.ensures.most c.loose.ensures.least in
    let old = rw (← c.unwrap_or-bounds.ensures) at all in
    (c.set_value.ensures.wide old.0, c.set_value-2.ensures.wide old.1)
