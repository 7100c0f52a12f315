use Rattle.dft_behavior.proofs.Ranks.{order_is_rank}
use Rattle.dft_behavior.proofs.OneSettled.{settled_one}
use Rattle.dft_behavior.proofs.laws.settled_is_one.Goals as goal

pub returns : goal.returns
returns c = record { order = order_is_rank; one = settled_one }
