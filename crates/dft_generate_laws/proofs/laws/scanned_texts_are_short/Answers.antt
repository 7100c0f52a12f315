use Rattle.dft_generate_laws.proofs.ScannedTexts.{scanned_are_short}
use Rattle.dft_generate_laws.proofs.laws.scanned_texts_are_short.Goals as goal

pub returns : goal.returns
returns c = scanned_are_short
