use Rattle.dft_config_out_laws.proofs.TextRead.{no_other, no_refusal, text_read}
use Rattle.dft_config_out_laws.proofs.laws.text_is_read.Goals as goal

pub returns-clause-read : goal.returns-clause-read
returns-clause-read c = text_read

pub returns-clause-other : goal.returns-clause-other
returns-clause-other c = no_other

pub returns-clause-refused : goal.returns-clause-refused
returns-clause-refused c = no_refusal
