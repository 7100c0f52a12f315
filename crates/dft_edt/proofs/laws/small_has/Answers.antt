use Rattle.dft_edt.proofs.Examples.{small_has}
use Rattle.dft_edt.proofs.laws.small_has.Goals as goal

pub returns : goal.returns
returns c = small_has
