use Rattle.dft_generate_laws.proofs.NetlistLaws.{netlists_are_read}
use Rattle.dft_generate_laws.proofs.laws.netlists_are_read.Goals as goal

pub returns : goal.returns
returns c = netlists_are_read
