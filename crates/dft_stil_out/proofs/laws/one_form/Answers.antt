use Rattle.dft_stil_out.proofs.NoteLemmas.{noted_bare}
use Rattle.dft_stil_out.proofs.laws.one_form.Goals as goal

pub returns : goal.returns
returns c = noted_bare
