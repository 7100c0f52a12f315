use Rattle.dft_stil_out.proofs.LengthLemmas.{written_has_length}
use Rattle.dft_stil_out.proofs.laws.has_written_length.Goals as goal

pub returns : goal.returns
returns c = written_has_length
