-- See the lemma.
use Rattle.dft_chains.proofs.ScanOffLemmas.{scan_off}
use Rattle.dft_chains.proofs.laws.scan_off_agrees.Goals as goal

pub returns : goal.returns
returns c = scan_off
