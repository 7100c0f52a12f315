-- What patterns show.
use Rattle.dft_pattern_behavior.proofs.Patterns.{loads_show, patterns_show}
use Rattle.dft_pattern_behavior.proofs.laws.patterns_show.Goals as goal

pub returns-clause-loads : goal.returns-clause-loads
returns-clause-loads c = loads_show

pub returns-clause-patterns : goal.returns-clause-patterns
returns-clause-patterns c = patterns_show
