use Rattle.dft_stitch.proofs.EvenLemmas.{chains_even}
use Rattle.dft_stitch.proofs.laws.chains_are_even.Goals as goal

pub returns : goal.returns
returns c = chains_even
