use Rattle.dft_stil_text.proofs.LimitLemmas as limits
use Rattle.dft_stil_text.proofs.laws.well_formed.Goals as goal

pub returns : goal.returns
returns c = limits.read_well
