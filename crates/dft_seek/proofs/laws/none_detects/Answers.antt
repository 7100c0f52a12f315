use Rattle.dft_seek.proofs.Covering.{none_detects}
use Rattle.dft_seek.proofs.laws.none_detects.Goals as goal

pub returns : goal.returns
returns c = none_detects
