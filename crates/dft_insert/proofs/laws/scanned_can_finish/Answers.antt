-- See the lemma.
use Rattle.dft_insert.proofs.Finished.{can_be_finished}
use Rattle.dft_insert.proofs.laws.scanned_can_finish.Goals as goal

pub returns : goal.returns
returns c = can_be_finished
