use Rattle.dft_generate_laws.proofs.Framed.{designs_are_accepted}
use Rattle.dft_generate_laws.proofs.laws.designs_are_accepted.Goals as goal

pub returns : goal.returns
returns c = designs_are_accepted
