use Rattle.dft_stil_text.proofs.LimitLemmas as limits
use Rattle.dft_stil_text.proofs.laws.one_reading.Goals as goal

pub returns : goal.returns
returns c = limits.one_set
