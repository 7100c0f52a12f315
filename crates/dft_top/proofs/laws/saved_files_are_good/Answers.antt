use Rattle.dft_top.proofs.SavedFiles.{saved_certified, saved_replayed}
use Rattle.dft_top.proofs.laws.saved_files_are_good.Goals as goal

pub returns-clause-replayed : goal.returns-clause-replayed
returns-clause-replayed c = saved_replayed

pub returns-clause-certified : goal.returns-clause-certified
returns-clause-certified c = saved_certified
