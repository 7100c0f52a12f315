use Rattle.dft_config.proofs.Linearity.{loads_sum}
use Rattle.dft_config.proofs.laws.loads_are_sums.Goals as goal

pub returns : goal.returns
returns c = loads_sum
