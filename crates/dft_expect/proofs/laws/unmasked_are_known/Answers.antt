use Rattle.dft_expect.proofs.MaskLemmas.{unmasked}
use Rattle.dft_expect.proofs.laws.unmasked_are_known.Goals as goal

pub returns : goal.returns
returns c = unmasked
