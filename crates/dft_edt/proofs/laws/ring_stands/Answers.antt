use Rattle.dft_edt.proofs.RingFacts.{ring_stands}
use Rattle.dft_edt.proofs.laws.ring_stands.Goals as goal

pub returns : goal.returns
returns c = ring_stands
