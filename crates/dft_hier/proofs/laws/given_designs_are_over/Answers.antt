use Rattle.dft_hier.proofs.OneModule.{given_are_over}
use Rattle.dft_hier.proofs.laws.given_designs_are_over.Goals as goal

pub returns : goal.returns
returns c = given_are_over
