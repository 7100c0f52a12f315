-- See the lemma.
use Rattle.dft_insert.proofs.Counted.{counts_added}
use Rattle.dft_insert.proofs.laws.scanned_counts.Goals as goal

pub returns : goal.returns
returns c = counts_added
