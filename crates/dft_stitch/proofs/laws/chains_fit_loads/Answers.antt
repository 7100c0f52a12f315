use Rattle.dft_stitch.proofs.LengthLemmas.{chains_fit}
use Rattle.dft_stitch.proofs.laws.chains_fit_loads.Goals as goal

pub returns : goal.returns
returns c = chains_fit
