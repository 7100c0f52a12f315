use Rattle.dft_configure.proofs.ScannedLemmas.{all_counted}
use Rattle.dft_configure.proofs.laws.scanned_are_counted.Goals as goal

pub returns : goal.returns
returns c = all_counted
