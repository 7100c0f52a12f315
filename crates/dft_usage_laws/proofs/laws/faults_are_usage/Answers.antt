use Rattle.dft_usage_laws.proofs.Commands.{faults_are_usage}
use Rattle.dft_usage_laws.proofs.laws.faults_are_usage.Goals as goal

pub returns : goal.returns
returns c = faults_are_usage
