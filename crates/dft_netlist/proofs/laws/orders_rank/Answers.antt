use Rattle.dft_netlist.proofs.RankLemmas.{order_ranks}
use Rattle.dft_netlist.proofs.StandLemmas.{order_orderable}
use Rattle.dft_netlist.proofs.laws.orders_rank.Goals as goal

pub returns-clause-ranks : goal.returns-clause-ranks
returns-clause-ranks c = order_ranks

pub returns-clause-orderable : goal.returns-clause-orderable
returns-clause-orderable c = order_orderable
