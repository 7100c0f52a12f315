-- A tree of choices is what all completions share.
use Rattle.dft_evaluator.proofs.WideLemmas.{tree_completes}
use Rattle.dft_evaluator.proofs.laws.trees_complete.Goals as goal

pub returns : goal.returns
returns c = tree_completes
