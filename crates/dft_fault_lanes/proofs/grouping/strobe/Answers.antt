-- The net of scan enables has its value in each lane, or nothing is known of it.
use Rattle.dft_fault_lanes.proofs.grouping.strobe.Goals as goal

pub returns-then-not-settle_by-clause-steers : goal.returns-then-not-settle_by-clause-steers
returns-then-not-settle_by-clause-steers c = c.settle_by-then-not-settle_by.ensures.unknown c.make.ensures.steer

pub returns-else-not-settle_by-clause-steers : goal.returns-else-not-settle_by-clause-steers
returns-else-not-settle_by-clause-steers c = c.settle_by.ensures.steers c.if-not-settle_by.false
