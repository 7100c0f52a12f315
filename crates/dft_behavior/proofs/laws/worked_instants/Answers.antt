use Rattle.dft_behavior.proofs.RunExampleLemmas.{all_at_once, no_orders, exchange, locked_exchange, two_then_one_is}
use Rattle.dft_behavior.proofs.laws.worked_instants.Goals as goal

pub returns : goal.returns
returns c = record { all = all_at_once; others = no_orders; exchange = exchange; locked = locked_exchange; three = two_then_one_is }
