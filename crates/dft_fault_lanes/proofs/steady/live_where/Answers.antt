-- No lane is live where it is not so.
use Rattle.dft_fault_lanes.proofs.steady.live_where.Goals as goal

pub returns-then-not-holds-clause-live : goal.returns-then-not-holds-clause-live
returns-then-not-holds-clause-live c = λ lane within h. absurd (c.no_lane.ensures.none lane within h)

pub returns-else-not-holds-clause-live : goal.returns-else-not-holds-clause-live
returns-else-not-holds-clause-live c = λ lane within h. (c.if-not-holds.false, h)
