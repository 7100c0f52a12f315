use Rattle.dft_generate_laws.proofs.Lengths.{texts_are_short}
use Rattle.dft_generate_laws.proofs.laws.texts_are_short.Goals as goal

pub returns : goal.returns
returns c = texts_are_short
