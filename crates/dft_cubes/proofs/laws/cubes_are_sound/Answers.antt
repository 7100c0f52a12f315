use Rattle.dft_cubes.proofs.SoundLemmas.{cubes_sound}
use Rattle.dft_cubes.proofs.laws.cubes_are_sound.Goals as goal

pub returns : goal.returns
returns c = cubes_sound
