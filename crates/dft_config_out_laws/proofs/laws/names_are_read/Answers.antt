use Rattle.dft_config_out_laws.proofs.Quoted.{name_read}
use Rattle.dft_config_out_laws.proofs.laws.names_are_read.Goals as goal

pub returns : goal.returns
returns c = name_read
