use Rattle.dft_faults.proofs.Finished.{can_finish, order_stays}
use Rattle.dft_faults.proofs.Listed.{listed_faults}
use Rattle.dft_faults.proofs.laws.faulty_can_finish.Goals as goal

pub returns : goal.returns
returns c = record { finished = can_finish; order = order_stays; listed = listed_faults }
