use Rattle.dft_edt.proofs.CompactorFacts.{compactor_stands}
use Rattle.dft_edt.proofs.laws.compactor_stands.Goals as goal

pub returns : goal.returns
returns c = compactor_stands
