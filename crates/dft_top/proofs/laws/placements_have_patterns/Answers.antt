use Rattle.dft_top.proofs.SomePatterns.{some_patterns}
use Rattle.dft_top.proofs.laws.placements_have_patterns.Goals as goal

pub returns : goal.returns
returns c = some_patterns
