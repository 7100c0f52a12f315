-- The table of kinds is the list of kinds.
use Rattle.dft_library_text.specs.Keys.{kind_named}
use Rattle.dft_library_text.proofs.keys.kind_named.Goals as goal

pub returns : goal.returns
unfolding kind_named
returns c = c.kind_among.ensures
