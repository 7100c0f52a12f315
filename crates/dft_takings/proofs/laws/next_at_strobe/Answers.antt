use Rattle.dft_takings.proofs.TakeLemmas.{next_of_strobe, next_of_source, next_of_force, origin_is_shown}
use Rattle.dft_takings.proofs.laws.next_at_strobe.Goals as goal

pub returns : goal.returns
returns c = record { read = next_of_strobe; source = next_of_source; force = next_of_force; origin = origin_is_shown }
