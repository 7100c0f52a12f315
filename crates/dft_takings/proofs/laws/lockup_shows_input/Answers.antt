use Rattle.dft_takings.proofs.LockupLemmas.{lockup_is_input, lockup_is_wire}
use Rattle.dft_takings.proofs.laws.lockup_shows_input.Goals as goal

pub returns : goal.returns
returns c = record { view = lockup_is_input; strobe = lockup_is_wire }
