use Rattle.dft_seek_laws.proofs.Detecting.{detected}
use Rattle.dft_seek_laws.proofs.laws.cubes_detect_in_runs.Goals as goal

pub returns : goal.returns
returns c = detected
