use Rattle.dft_takings.proofs.NeededLemmas.{needed_is_view, next_of_needed, needed_is_strobe, look_of_needed}
use Rattle.dft_takings.proofs.laws.needed_is_settled.Goals as goal

pub returns : goal.returns
returns c = record { view = needed_is_view; next = next_of_needed; strobe = needed_is_strobe; look = look_of_needed }
