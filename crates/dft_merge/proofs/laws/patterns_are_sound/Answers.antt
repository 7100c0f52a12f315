use Rattle.dft_merge.proofs.MergedLemmas.{patterns_sound}
use Rattle.dft_merge.proofs.laws.patterns_are_sound.Goals as goal

pub returns : goal.returns
returns c = patterns_sound
