use Rattle.dft_parts.proofs.Trees.{sum_stands, sum_bit, sum_value}
use Rattle.dft_parts.proofs.laws.sums_add_up.Goals as goal

pub returns : goal.returns
returns c = record { stands = sum_stands; bit = sum_bit; value = sum_value }
