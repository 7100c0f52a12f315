use Rattle.dft_configure.proofs.PairLemmas.{pairs_loaded}
use Rattle.dft_configure.proofs.laws.pairs_are_loaded.Goals as goal

pub returns : goal.returns
returns c = pairs_loaded
