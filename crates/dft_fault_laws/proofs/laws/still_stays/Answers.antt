use Rattle.dft_fault_laws.proofs.Bounds.{still_stays}
use Rattle.dft_fault_laws.proofs.laws.still_stays.Goals as goal

pub returns : goal.returns
returns c = still_stays
