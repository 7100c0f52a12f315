-- It is made, for clocks that pulse so, and has what is compared.
use Rattle.dft_fault_lanes.proofs.plans.Plan.fits.Goals as goal

pub returns-clause-free : goal.returns-clause-free
returns-clause-free c = λ up. c.is_of.ensures.free c.if-not-is_of.false

pub returns-clause-pulses : goal.returns-clause-pulses
returns-clause-pulses c = λ up. c.is_of.ensures.pulses c.if-not-is_of.false

pub returns-clause-covered : goal.returns-clause-covered
returns-clause-covered c = rw c.deref.ensures.value at c.covers.ensures
