use Rattle.dft_merge.proofs.OneLemmas.{unsolvable_exact}
use Rattle.dft_merge.proofs.laws.unsolvable_is_exact.Goals as goal

pub returns : goal.returns
returns c = unsolvable_exact
