use Rattle.dft_stitch.proofs.OnceLemmas.{cells_once}
use Rattle.dft_stitch.proofs.laws.cells_stand_once.Goals as goal

pub returns : goal.returns
returns c = cells_once
