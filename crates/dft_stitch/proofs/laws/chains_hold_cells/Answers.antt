use Rattle.dft_stitch.proofs.EvenLemmas.{chains_hold}
use Rattle.dft_stitch.proofs.laws.chains_hold_cells.Goals as goal

pub returns : goal.returns
returns c = chains_hold
