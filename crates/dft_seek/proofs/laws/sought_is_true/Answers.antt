use Rattle.dft_seek.proofs.Telling.{cube_true, none_true}
use Rattle.dft_seek.proofs.laws.sought_is_true.Goals as goal

pub returns : goal.returns
returns c = record { cube = cube_true; none = none_true }
