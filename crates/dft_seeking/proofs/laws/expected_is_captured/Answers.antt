use Rattle.dft_seeking.proofs.ExpectedLemmas.{expected_shown}
use Rattle.dft_seeking.proofs.ToldShows.{expected_tells}
use Rattle.dft_seeking.proofs.laws.expected_is_captured.Goals as goal

pub returns : goal.returns
returns c = record { shown = expected_shown; tells = expected_tells }
