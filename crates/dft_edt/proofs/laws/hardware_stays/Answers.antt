use Rattle.dft_edt.proofs.Staying.{hardware_stays}
use Rattle.dft_edt.proofs.laws.hardware_stays.Goals as goal

pub returns : goal.returns
returns c = hardware_stays
