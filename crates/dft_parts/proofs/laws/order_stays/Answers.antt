use Rattle.dft_parts.proofs.Ordering.{order_stays}
use Rattle.dft_parts.proofs.laws.order_stays.Goals as goal

pub returns : goal.returns
returns c = order_stays
