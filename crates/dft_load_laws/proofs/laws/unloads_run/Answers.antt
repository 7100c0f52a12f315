-- Unloads run.
use Rattle.dft_load_laws.proofs.Running.{unloads_run}
use Rattle.dft_load_laws.proofs.laws.unloads_run.Goals as goal

pub returns : goal.returns
returns c = unloads_run
