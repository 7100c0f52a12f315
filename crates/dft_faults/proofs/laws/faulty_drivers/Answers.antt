use Rattle.dft_faults.proofs.Finished.{drivers_stay}
use Rattle.dft_faults.proofs.laws.faulty_drivers.Goals as goal

pub returns : goal.returns
returns c = drivers_stay
