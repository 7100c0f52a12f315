-- Compiled patterns are well formed.
use Rattle.dft_compile_laws.proofs.Forming.{written_formed}
use Rattle.dft_compile_laws.proofs.laws.written_formed.Goals as goal

pub returns : goal.returns
returns c = written_formed
