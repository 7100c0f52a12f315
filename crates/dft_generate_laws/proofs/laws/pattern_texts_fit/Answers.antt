use Rattle.dft_generate_laws.proofs.Bytes.{pattern_texts_fit}
use Rattle.dft_generate_laws.proofs.laws.pattern_texts_fit.Goals as goal

pub returns : goal.returns
returns c = pattern_texts_fit
