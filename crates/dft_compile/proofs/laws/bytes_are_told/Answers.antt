use Rattle.dft_compile.proofs.BytesLemmas.{bytes_told}
use Rattle.dft_compile.proofs.laws.bytes_are_told.Goals as goal

pub returns : goal.returns
returns c = bytes_told
