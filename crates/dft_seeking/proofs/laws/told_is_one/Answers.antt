use Rattle.dft_seeking.proofs.OneLemmas.{told_one}
use Rattle.dft_seeking.proofs.laws.told_is_one.Goals as goal

pub returns : goal.returns
returns c = told_one
