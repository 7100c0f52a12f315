use Rattle.dft_replay.proofs.Uniqueness.{verdict_one}
use Rattle.dft_replay.proofs.laws.verdict_is_one.Goals as goal

pub returns : goal.returns
returns c = verdict_one
