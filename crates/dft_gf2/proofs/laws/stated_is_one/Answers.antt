use Rattle.dft_gf2.proofs.OneStated.{stated_one}
use Rattle.dft_gf2.proofs.laws.stated_is_one.Goals as goal

pub returns : goal.returns
returns c = stated_one
