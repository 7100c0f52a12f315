-- Listed vectors play.
use Rattle.dft_pattern_behavior.proofs.Clocking.{set_suits}
use Rattle.dft_pattern_behavior.proofs.Playing.{set_up_clears, loads_load, captures_capture}
use Rattle.dft_pattern_behavior.proofs.Splitting.{listed_show}
use Rattle.dft_pattern_behavior.proofs.laws.vectors_play.Goals as goal

pub returns-clause-set_up : goal.returns-clause-set_up
returns-clause-set_up c = set_up_clears

pub returns-clause-loads : goal.returns-clause-loads
returns-clause-loads c = loads_load

pub returns-clause-captures : goal.returns-clause-captures
returns-clause-captures c = captures_capture

pub returns-clause-ports : goal.returns-clause-ports
returns-clause-ports c = set_suits

pub returns-clause-show : goal.returns-clause-show
returns-clause-show c = listed_show
