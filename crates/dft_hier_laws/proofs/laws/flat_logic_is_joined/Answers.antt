use Rattle.dft_hier_laws.proofs.LogicByNumbers.{flat_logic_is_joined}
use Rattle.dft_hier_laws.proofs.laws.flat_logic_is_joined.Goals as goal

pub returns : goal.returns
returns c = flat_logic_is_joined
