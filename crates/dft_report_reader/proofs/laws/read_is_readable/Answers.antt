-- What is read can be read.
use Rattle.dft_report_reader.proofs.ReadableReading.{read_is_readable}
use Rattle.dft_report_reader.proofs.laws.read_is_readable.Goals as goal

pub returns : goal.returns
returns c = read_is_readable
