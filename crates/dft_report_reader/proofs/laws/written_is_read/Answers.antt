-- What is written is read.
use Rattle.dft_report_reader.proofs.Whole.{written_is_read}
use Rattle.dft_report_reader.proofs.laws.written_is_read.Goals as goal

pub returns : goal.returns
returns c = written_is_read
