use Rattle.dft_takings.proofs.ListLemmas.{list_is_closed, list_is_settled}
use Rattle.dft_takings.proofs.laws.lists_settle.Goals as goal

pub returns : goal.returns
returns c = record { closed = list_is_closed; settled = list_is_settled }
