use Rattle.dft_abstract.proofs.OneDomain as proof
use Rattle.dft_abstract.proofs.laws.one_domain.Goals as goal

pub returns : goal.returns
returns c = proof.one_domain
