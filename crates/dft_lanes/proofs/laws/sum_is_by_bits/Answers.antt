use Rattle.dft_lanes.proofs.RowLemmas.{sum_packed, sum_at}
use Rattle.dft_lanes.proofs.laws.sum_is_by_bits.Goals as goal

pub returns : goal.returns
returns c = λ n a b left right. (sum_packed n a b left right, sum_at n a b left right)
