use Rattle.dft_seek_laws.proofs.Applying.{cubes_apply}
use Rattle.dft_seek_laws.proofs.Existing.{turns_there}
use Rattle.dft_seek_laws.proofs.laws.cubes_apply.Goals as goal

pub returns : goal.returns
returns c = record { apply = cubes_apply; turns = turns_there }
