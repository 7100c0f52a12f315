use Rattle.dft_edt.proofs.CompactorValues.{compactor_bits, compactor_values}
use Rattle.dft_edt.proofs.laws.compactor_computes.Goals as goal

pub returns : goal.returns
returns c = record { bits = compactor_bits; values = compactor_values }
