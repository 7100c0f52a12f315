use Rattle.dft_certify_laws.proofs.Compiling.{compiled_certifies}
use Rattle.dft_certify_laws.proofs.laws.compiled_certifies.Goals as goal

pub returns : goal.returns
returns c = compiled_certifies
