use Rattle.dft_top.proofs.OneOutcome.{outcome_one}
use Rattle.dft_top.proofs.laws.outcome_is_one.Goals as goal

pub returns : goal.returns
returns c = outcome_one
