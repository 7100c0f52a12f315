use Rattle.dft_certify_laws.proofs.Writing.{written_certifies}
use Rattle.dft_certify_laws.proofs.laws.written_certifies.Goals as goal

pub returns : goal.returns
returns c = written_certifies
