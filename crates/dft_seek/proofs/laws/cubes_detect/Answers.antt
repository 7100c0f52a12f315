use Rattle.dft_seek.proofs.Rising.{cubes_detect}
use Rattle.dft_seek.proofs.laws.cubes_detect.Goals as goal

pub returns : goal.returns
returns c = cubes_detect
