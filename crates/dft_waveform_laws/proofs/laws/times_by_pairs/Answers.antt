use Rattle.dft_waveform_laws.proofs.PairLemmas.{paired}
use Rattle.dft_waveform_laws.proofs.laws.times_by_pairs.Goals as goal

pub returns : goal.returns
returns c = paired
