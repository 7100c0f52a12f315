-- No lane is live where a scan enable, or the one source, moves.
use Rattle.dft_fault_lanes.proofs.steady.cell_steady.Goals as goal

pub returns-else-reads_still-clause-live : goal.returns-else-reads_still-clause-live
returns-else-reads_still-clause-live c = λ lane within h. absurd (c.no_lane.ensures.none lane within h)

pub returns-else-reads_still-clause-reads : goal.returns-else-reads_still-clause-reads
returns-else-reads_still-clause-reads c = λ lane ports within h. absurd (c.no_lane.ensures.none lane within h)

pub returns-else-reads_still-2-clause-live : goal.returns-else-reads_still-2-clause-live
returns-else-reads_still-2-clause-live c = λ lane within h. absurd (c.no_lane-else-reads_still-2.ensures.none lane within h)

pub returns-else-reads_still-2-clause-reads : goal.returns-else-reads_still-2-clause-reads
returns-else-reads_still-2-clause-reads c = λ lane ports within h. absurd (c.no_lane-else-reads_still-2.ensures.none lane within h)
