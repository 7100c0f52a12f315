use Rattle.dft_fault_lanes.proofs.LaneLemmas.{lane_is_faulty}
use Rattle.dft_fault_lanes.proofs.laws.lane_is_faulty.Goals as goal

pub returns : goal.returns
returns c = lane_is_faulty
