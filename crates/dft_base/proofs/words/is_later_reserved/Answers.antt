use Rattle.dft_base.specs.Words.{later_reserved_words}
use Rattle.dft_base.proofs.words.is_later_reserved.Goals as goal

pub returns : goal.returns
unfolding later_reserved_words
returns c = c.is_among.ensures
