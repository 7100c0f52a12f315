-- One vector over the hardware of style Edt.
use Rattle.dft_scan_behavior.proofs.EdtActs.{vectors_act, vectors_act_in_runs}
use Rattle.dft_scan_behavior.proofs.laws.edt_acts.Goals as goal

pub returns-clause-runs : goal.returns-clause-runs
returns-clause-runs c = vectors_act_in_runs

pub returns-clause-cycle : goal.returns-clause-cycle
returns-clause-cycle c = vectors_act
