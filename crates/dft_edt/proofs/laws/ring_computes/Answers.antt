use Rattle.dft_edt.proofs.RingValues.{ring_bits, ring_values}
use Rattle.dft_edt.proofs.laws.ring_computes.Goals as goal

pub returns : goal.returns
returns c = record { bits = ring_bits; values = ring_values }
