use Rattle.dft_chains.proofs.ScanOffLemmas.{pins_keep}
use Rattle.dft_chains.proofs.laws.pins_keep.Goals as goal

pub returns : goal.returns
returns c = pins_keep
