use Rattle.dft_generate_laws.proofs.Vectors.{patterns_fit}
use Rattle.dft_generate_laws.proofs.laws.patterns_fit.Goals as goal

pub returns : goal.returns
returns c = patterns_fit
