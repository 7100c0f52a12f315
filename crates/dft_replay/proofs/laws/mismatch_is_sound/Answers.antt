use Rattle.dft_replay.proofs.Soundness.{mismatch_sound}
use Rattle.dft_replay.proofs.laws.mismatch_is_sound.Goals as goal

pub returns : goal.returns
returns c = mismatch_sound
