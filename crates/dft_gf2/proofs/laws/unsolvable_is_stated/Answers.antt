use Rattle.dft_gf2.proofs.Stated.{unsolvable_stated}
use Rattle.dft_gf2.proofs.laws.unsolvable_is_stated.Goals as goal

pub returns : goal.returns
returns c = unsolvable_stated
