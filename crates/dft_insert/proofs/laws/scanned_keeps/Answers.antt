use Rattle.dft_insert.proofs.Keeping.{adds_in_order, keeps_design}
use Rattle.dft_insert.proofs.laws.scanned_keeps.Goals as goal

pub returns : goal.returns
returns c = record { keeps = keeps_design; adds = adds_in_order }
