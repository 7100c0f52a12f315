use Rattle.dft_hier_laws.proofs.SettledByPath.{flat_is_joined}
use Rattle.dft_hier_laws.proofs.laws.flat_designs_are_joined.Goals as goal

pub returns : goal.returns
returns c = flat_is_joined
