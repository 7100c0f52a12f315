-- Compiled patterns pass.
use Rattle.dft_compile_laws.proofs.WrittenPassing.{written_pass}
use Rattle.dft_compile_laws.proofs.laws.written_pass.Goals as goal

pub returns : goal.returns
returns c = written_pass
