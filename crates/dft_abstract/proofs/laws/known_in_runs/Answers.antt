use Rattle.dft_abstract.proofs.Lifts.{known_after_turn, known_after_falls, known_at_strobe, low_after_turn}
use Rattle.dft_abstract.proofs.laws.known_in_runs.Goals as goal

pub returns : goal.returns
returns c = record { after = known_after_turn; falls = known_after_falls; strobe = known_at_strobe; low = low_after_turn }
