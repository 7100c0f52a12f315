use Rattle.dft_seek.proofs.SoughtLemmas.{few_dead}
use Rattle.dft_seek.proofs.laws.few_dead_nodes.Goals as goal

pub returns : goal.returns
returns c = few_dead
