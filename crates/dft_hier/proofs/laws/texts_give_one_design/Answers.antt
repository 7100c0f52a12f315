use Rattle.dft_hier.proofs.OneDesign.{gives_one}
use Rattle.dft_hier.proofs.laws.texts_give_one_design.Goals as goal

pub returns : goal.returns
returns c = gives_one
