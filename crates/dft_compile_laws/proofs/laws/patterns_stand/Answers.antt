-- Patterns stand.
use Rattle.dft_compile_laws.proofs.Standing.{patterns_stand}
use Rattle.dft_compile_laws.proofs.laws.patterns_stand.Goals as goal

pub returns : goal.returns
returns c = patterns_stand
