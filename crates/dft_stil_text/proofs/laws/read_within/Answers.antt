use Rattle.dft_stil_text.proofs.LimitLemmas as limits
use Rattle.dft_stil_text.proofs.laws.read_within.Goals as goal

pub returns : goal.returns
returns c = limits.read_within
