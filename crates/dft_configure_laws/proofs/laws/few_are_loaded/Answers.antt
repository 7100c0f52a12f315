use Rattle.dft_configure_laws.proofs.FewLemmas.{few_loaded, few_solvable}
use Rattle.dft_configure_laws.proofs.laws.few_are_loaded.Goals as goal

pub returns-clause-loaded : goal.returns-clause-loaded
returns-clause-loaded c = few_loaded

pub returns-clause-solvable : goal.returns-clause-solvable
returns-clause-solvable c = few_solvable
