use Rattle.dft_config_out_laws.proofs.ItemRead.{items_read}
use Rattle.dft_config_out_laws.proofs.ListRead.{lists_read}
use Rattle.dft_config_out_laws.proofs.laws.lists_are_read.Goals as goal

pub returns-clause-lists : goal.returns-clause-lists
returns-clause-lists c = lists_read

pub returns-clause-items : goal.returns-clause-items
returns-clause-items c = items_read
