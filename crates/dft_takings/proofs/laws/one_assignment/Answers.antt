use Rattle.dft_takings.proofs.ShownLemmas.{shown_is_strobe, pass_of_shown}
use Rattle.dft_takings.proofs.laws.one_assignment.Goals as goal

pub returns : goal.returns
returns c = record { view = shown_is_strobe; pass = pass_of_shown }
