use Rattle.dft_merge.proofs.OneLemmas.{placement_one}
use Rattle.dft_merge.proofs.laws.placement_is_one.Goals as goal

pub returns : goal.returns
returns c = placement_one
