use Rattle.dft_rules.proofs.ClockedFlops.{scanned_clocked}
use Rattle.dft_rules.proofs.laws.scanned_are_clocked.Goals as goal

pub returns : goal.returns
returns c = scanned_clocked
