use Rattle.dft_lanes.proofs.RowLemmas.{parity_sum}
use Rattle.dft_lanes.proofs.laws.parity_is_sum.Goals as goal

pub returns : goal.returns
returns c = λ n a b left right. parity_sum n a b left right
