-- Events run while scan is off.
use Rattle.dft_scan_behavior.proofs.EventRuns.{events_run}
use Rattle.dft_scan_behavior.proofs.laws.events_run.Goals as goal

pub returns : goal.returns
returns c = events_run
