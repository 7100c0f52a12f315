use Rattle.dft_certify_laws.proofs.Running.{certified_in_runs}
use Rattle.dft_certify_laws.proofs.laws.certified_in_runs.Goals as goal

pub returns : goal.returns
returns c = certified_in_runs
