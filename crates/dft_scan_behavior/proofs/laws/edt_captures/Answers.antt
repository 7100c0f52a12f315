-- One capture vector of style Edt.
use Rattle.dft_scan_behavior.proofs.Captured.{strobes_follow, captures_follow}
use Rattle.dft_scan_behavior.proofs.laws.edt_captures.Goals as goal

pub returns-clause-strobes : goal.returns-clause-strobes
returns-clause-strobes c = strobes_follow

pub returns-clause-captures : goal.returns-clause-captures
returns-clause-captures c = captures_follow
