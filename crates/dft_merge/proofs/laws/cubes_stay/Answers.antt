use Rattle.dft_merge.proofs.StayLemmas.{cubes_stay}
use Rattle.dft_merge.proofs.laws.cubes_stay.Goals as goal

pub returns : goal.returns
returns c = cubes_stay
