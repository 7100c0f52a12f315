use Rattle.dft_config_out_laws.proofs.ReadTable.{table_read}
use Rattle.dft_config_out_laws.proofs.laws.table_is_read.Goals as goal

pub returns : goal.returns
returns c = table_read
