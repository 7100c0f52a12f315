use Rattle.dft_gf2.proofs.Unsolvable.{certified_unsolvable}
use Rattle.dft_gf2.proofs.laws.certified_is_unsolvable.Goals as goal

pub returns : goal.returns
returns c = certified_unsolvable
