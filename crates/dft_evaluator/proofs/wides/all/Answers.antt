-- Words of one bit.
use Rattle.dft_base.specs.declared.tri.Tri.TheVariants.{Zero, One, Unknown}
use Rattle.dft_evaluator.proofs.BitLemmas.{all_zero, all_one, all_unknown, same_value}
use Rattle.dft_evaluator.proofs.wides.all.Goals as goal

pub returns-in-Zero : goal.returns-in-Zero
returns-in-Zero c = same_value _ Zero c.args.value c.in-Zero.is all_zero

pub returns-in-One : goal.returns-in-One
returns-in-One c = same_value _ One c.args.value c.in-One.is all_one

pub returns-in-Unknown : goal.returns-in-Unknown
returns-in-Unknown c = same_value _ Unknown c.args.value c.in-Unknown.is all_unknown
