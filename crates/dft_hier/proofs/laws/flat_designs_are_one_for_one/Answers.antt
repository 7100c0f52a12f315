use Rattle.dft_hier.proofs.OneForOne.{one_for_one}
use Rattle.dft_hier.proofs.laws.flat_designs_are_one_for_one.Goals as goal

pub returns : goal.returns
returns c = one_for_one
