use Rattle.dft_cubes_out.proofs.ReadLemmas.{written_cubes_are_read}
use Rattle.dft_cubes_out.proofs.laws.written_cubes_are_read.Goals as goal

pub returns : goal.returns
returns c = written_cubes_are_read
