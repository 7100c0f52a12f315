use Rattle.dft_gf2.proofs.OneChosen.{chosen_one}
use Rattle.dft_gf2.proofs.laws.chosen_is_one.Goals as goal

pub returns : goal.returns
returns c = chosen_one
