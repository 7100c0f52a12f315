use Rattle.dft_seek.proofs.TreeLemmas.{tree_one, trees_exist}
use Rattle.dft_seek.proofs.laws.tree_is_one.Goals as goal

pub returns : goal.returns
returns c = record { exists = trees_exist; one = tree_one }
