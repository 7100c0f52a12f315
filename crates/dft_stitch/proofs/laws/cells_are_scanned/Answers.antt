use Rattle.dft_stitch.proofs.OnceLemmas.{cells_scanned}
use Rattle.dft_stitch.proofs.laws.cells_are_scanned.Goals as goal

pub returns : goal.returns
returns c = cells_scanned
