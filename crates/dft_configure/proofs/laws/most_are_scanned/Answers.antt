use Rattle.dft_configure.proofs.MostLemmas.{most_scanned}
use Rattle.dft_configure.proofs.laws.most_are_scanned.Goals as goal

pub returns : goal.returns
returns c = most_scanned
