-- Only what is written is read.
use Rattle.dft_report_reader.proofs.CanonicalReading.{read_is_written}
use Rattle.dft_report_reader.proofs.laws.read_is_written.Goals as goal

pub returns : goal.returns
returns c = read_is_written
