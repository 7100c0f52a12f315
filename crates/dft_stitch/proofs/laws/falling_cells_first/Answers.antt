use Rattle.dft_stitch.proofs.OrderLemmas.{falling_first}
use Rattle.dft_stitch.proofs.laws.falling_cells_first.Goals as goal

pub returns : goal.returns
returns c = falling_first
