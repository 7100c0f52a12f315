use Rattle.dft_replay.proofs.PlainLemmas.{verdict_plain}
use Rattle.dft_replay.proofs.laws.verdict_is_plain.Goals as goal

pub returns : goal.returns
returns c = verdict_plain
