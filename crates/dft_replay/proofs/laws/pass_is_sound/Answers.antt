use Rattle.dft_replay.proofs.Soundness.{pass_sound}
use Rattle.dft_replay.proofs.laws.pass_is_sound.Goals as goal

pub returns : goal.returns
returns c = pass_sound
