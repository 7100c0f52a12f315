use Rattle.dft_configure_laws.proofs.MadeLemmas.{made_good, made_loaded, none_unsolvable}
use Rattle.dft_configure_laws.proofs.laws.made_loads.Goals as goal

pub returns-clause-good : goal.returns-clause-good
returns-clause-good c = made_good

pub returns-clause-loaded : goal.returns-clause-loaded
returns-clause-loaded c = made_loaded

pub returns-clause-solvable : goal.returns-clause-solvable
returns-clause-solvable c = none_unsolvable
