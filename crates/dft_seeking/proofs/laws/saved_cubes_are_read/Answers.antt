use Rattle.dft_seeking.proofs.CubesRead.{saved_read, told_cubes}
use Rattle.dft_seeking.proofs.laws.saved_cubes_are_read.Goals as goal

pub returns : goal.returns
returns c = record { cubes = told_cubes; read = saved_read }
