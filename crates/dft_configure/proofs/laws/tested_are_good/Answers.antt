use Rattle.dft_configure.proofs.GoodLemmas.{good_tested, tested_good}
use Rattle.dft_configure.proofs.laws.tested_are_good.Goals as goal

pub returns : goal.returns
returns c = λ rows wide. (tested_good rows, good_tested rows wide)
