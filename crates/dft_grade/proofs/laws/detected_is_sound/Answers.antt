use Rattle.dft_grade.proofs.Soundness.{detected_sound}
use Rattle.dft_grade.proofs.laws.detected_is_sound.Goals as goal

pub returns : goal.returns
returns c = detected_sound
