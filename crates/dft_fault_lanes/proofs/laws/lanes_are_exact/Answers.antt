use Rattle.dft_fault_lanes.proofs.ExactLemmas.{lanes_are_exact}
use Rattle.dft_fault_lanes.proofs.laws.lanes_are_exact.Goals as goal

pub returns : goal.returns
returns c = lanes_are_exact
