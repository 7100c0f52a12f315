-- See the lemmas.
use Rattle.dft_insert.proofs.Agreed.{contains_design, agrees_off}
use Rattle.dft_insert.proofs.laws.scanned_agrees.Goals as goal

pub returns : goal.returns
returns c = record { contains = contains_design; agrees = agrees_off }
