use Rattle.dft_seeking.proofs.OneLemmas.{told_true}
use Rattle.dft_seeking.proofs.laws.told_is_true.Goals as goal

pub returns : goal.returns
returns c = told_true
