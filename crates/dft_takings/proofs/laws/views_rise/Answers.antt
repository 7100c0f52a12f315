use Rattle.dft_takings.proofs.RiseLemmas as proof
use Rattle.dft_takings.proofs.laws.views_rise.Goals as goal

pub returns : goal.returns
returns c = record { strobe = proof.view_is_above_strobe; bits = proof.no_two_bits; map = proof.views_rise; reads = proof.reads_rise }
