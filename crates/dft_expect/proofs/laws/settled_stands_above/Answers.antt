use Rattle.dft_expect.proofs.CaptureLemmas.{stands_above}
use Rattle.dft_expect.proofs.laws.settled_stands_above.Goals as goal

pub returns : goal.returns
returns c = stands_above
