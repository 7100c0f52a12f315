use Rattle.dft_cells.proofs.Completions.{shared_above}
use Rattle.dft_cells.proofs.laws.completions_are_above.Goals as goal

pub returns : goal.returns
returns c = shared_above
