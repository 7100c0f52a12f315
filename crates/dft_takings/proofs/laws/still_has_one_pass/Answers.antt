use Rattle.dft_takings.proofs.StillLemmas.{still_is_one, still_has_one_next, still_is_strobe, still_next_is_strobe, one_pass}
use Rattle.dft_takings.proofs.laws.still_has_one_pass.Goals as goal

pub returns : goal.returns
returns c = record { one = still_is_one; next = still_has_one_next; strobe = still_is_strobe; from = still_next_is_strobe; pass = one_pass }
