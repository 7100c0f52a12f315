use Rattle.dft_generate_laws.proofs.CubeTexts.{cubes_are_read}
use Rattle.dft_generate_laws.proofs.Seeds.{seeds_give_words}
use Rattle.dft_generate_laws.proofs.laws.cubes_are_read.Goals as goal

pub returns : goal.returns
returns c = record { cubes = cubes_are_read; words = seeds_give_words }
