use Rattle.dft_configure_laws.proofs.ScanLemmas.{made_scanned}
use Rattle.dft_configure_laws.proofs.laws.made_scans.Goals as goal

pub returns : goal.returns
returns c = made_scanned
