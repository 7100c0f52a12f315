-- The value is lowered and then raised.
use Rattle.dft_fault_lanes.proofs.ClampLemmas.{within_some}
use Rattle.dft_fault_lanes.proofs.clamps.within.Goals as goal

pub returns-in-Some : goal.returns-in-Some
returns-in-Some c = rw c.in-Some.is (within_some c.in-Some.bounds c.args.wide.now _ _ (rw c.in-Some.is at c.requires) c.wide_and.ensures c.wide_or.ensures)
