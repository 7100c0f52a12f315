-- There is a fill bit for each column.
use Rattle.std.proofs.Common.{◌∙◌, ap, length}
use Rattle.dft_encode.proofs.FindingLemmas.{fill_length}
use Rattle.dft_encode.proofs.bits.channel_bits.Goals as goal

pub solved-requires-clause-columns : goal.solved-requires-clause-columns
solved-requires-clause-columns c = ap length c.deref.ensures.value ∙ ap length c.in_ok-like.ensures ∙ fill_length c.args.config.now.fill c.args.pattern c.args.columns ∙ c.requires.columns
