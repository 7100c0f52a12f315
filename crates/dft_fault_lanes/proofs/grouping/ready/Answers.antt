-- The plan fits, or it is made.
use Rattle.dft_fault_lanes.proofs.grouping.ready.Goals as goal

pub returns-else-not-fits-clause-plan : goal.returns-else-not-fits-clause-plan
returns-else-not-fits-clause-plan c = c.requires.plan (c.fits.ensures.made c.if-not-fits.false)

pub returns-else-not-fits-clause-pulses : goal.returns-else-not-fits-clause-pulses
returns-else-not-fits-clause-pulses c = c.fits.ensures.pulses c.if-not-fits.false

pub returns-else-not-fits-clause-covered : goal.returns-else-not-fits-clause-covered
returns-else-not-fits-clause-covered c = c.fits.ensures.covered c.if-not-fits.false

pub returns-else-not-fits-clause-free : goal.returns-else-not-fits-clause-free
returns-else-not-fits-clause-free c = c.fits.ensures.free c.if-not-fits.false
