use Rattle.dft_stil_text.proofs.BeyondLemmas as beyond
use Rattle.dft_stil_text.proofs.laws.refused_beyond.Goals as goal

pub returns : goal.returns
returns c = beyond.refused_beyond
