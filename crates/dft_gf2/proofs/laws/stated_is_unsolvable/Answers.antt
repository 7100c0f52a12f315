use Rattle.dft_gf2.proofs.Unsolvable.{stated_unsolvable}
use Rattle.dft_gf2.proofs.laws.stated_is_unsolvable.Goals as goal

pub returns : goal.returns
returns c = stated_unsolvable
