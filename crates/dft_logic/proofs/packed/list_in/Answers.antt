-- The part of the numbers between its bounds.
use Rattle.dft_logic.proofs.PackedLemmas.{list_bounded}
use Rattle.dft_logic.proofs.packed.list_in.Goals as goal

pub returns : goal.returns
returns c = list_bounded c.args.ends.now c.args.numbers.now c.args.place _ _ c.requires.live c.bounds_of-start.ensures.start c.bounds_of-start.ensures.end
