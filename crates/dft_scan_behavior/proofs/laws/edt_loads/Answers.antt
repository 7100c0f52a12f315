-- Loads and unloads of style Edt.
use Rattle.dft_scan_behavior.proofs.Reaching.{loads_reach, unloads_show}
use Rattle.dft_scan_behavior.proofs.laws.edt_loads.Goals as goal

pub returns-clause-loads : goal.returns-clause-loads
returns-clause-loads c = loads_reach

pub returns-clause-unloads : goal.returns-clause-unloads
returns-clause-unloads c = unloads_show
