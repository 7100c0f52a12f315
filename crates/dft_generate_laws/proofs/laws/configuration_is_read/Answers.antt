use Rattle.dft_generate_laws.proofs.ReadConfiguration.{configuration_read}
use Rattle.dft_generate_laws.proofs.laws.configuration_is_read.Goals as goal

pub returns : goal.returns
returns c = configuration_read
