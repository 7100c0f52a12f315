-- The clocks pulse so, and the flags are the same.
use Rattle.dft_fault_lanes.proofs.plans.Plan.is_of.Goals as goal

pub returns-clause-pulses : goal.returns-clause-pulses
returns-clause-pulses c = rw c.deref.ensures.value at c.same_pulses.ensures

pub returns-clause-free : goal.returns-clause-free
returns-clause-free c = λ up. c.is_like.ensures c.if-not-is_like.false
