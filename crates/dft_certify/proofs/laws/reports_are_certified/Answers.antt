use Rattle.dft_certify.proofs.ExactLemmas.{certified_exactly}
use Rattle.dft_certify.proofs.NeverLemmas.{certified_is_never}
use Rattle.dft_certify.proofs.laws.reports_are_certified.Goals as goal

pub returns-clause-exact : goal.returns-clause-exact
returns-clause-exact c = certified_exactly

pub returns-clause-never : goal.returns-clause-never
returns-clause-never c = certified_is_never
