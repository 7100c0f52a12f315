use Rattle.dft_encode.proofs.WidthLemmas.{vectors_wide}
use Rattle.dft_encode.proofs.laws.vectors_have_width.Goals as goal

pub returns : goal.returns
returns c = vectors_wide
