use Rattle.dft_certify_laws.proofs.Compiling.{compiled_report_is_read}
use Rattle.dft_certify_laws.proofs.laws.compiled_report_is_read.Goals as goal

pub returns : goal.returns
returns c = compiled_report_is_read
