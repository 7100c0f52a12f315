use Rattle.dft_runs.proofs.WiderPortsLemmas.{ports_widen}
use Rattle.dft_runs.proofs.laws.ports_widen.Goals as goal

pub returns : goal.returns
returns c = ports_widen
