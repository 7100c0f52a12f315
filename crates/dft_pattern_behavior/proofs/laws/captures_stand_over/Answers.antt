use Rattle.dft_pattern_behavior.proofs.Standing.{stand_over}
use Rattle.dft_pattern_behavior.proofs.laws.captures_stand_over.Goals as goal

pub returns : goal.returns
returns c = stand_over
