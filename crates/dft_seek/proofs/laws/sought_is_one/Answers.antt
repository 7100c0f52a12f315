use Rattle.dft_seek.proofs.SoughtLemmas.{cone_one, sought_one}
use Rattle.dft_seek.proofs.laws.sought_is_one.Goals as goal

pub returns : goal.returns
returns c = record { cone = cone_one; told = sought_one }
