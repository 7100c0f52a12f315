use Rattle.dft_parts.proofs.Ranking.{ranks_order, order_ranks, parts_rank}
use Rattle.dft_parts.proofs.RankedParts.{flip_flop_ranked, gate_ranked, lockup_ranked}
use Rattle.dft_parts.proofs.laws.ranks_order.Goals as goal

pub returns : goal.returns
returns c = record { order = ranks_order; ranks = order_ranks; parts = parts_rank; flip_flop = flip_flop_ranked; gate = gate_ranked; lockup = lockup_ranked }
