use Rattle.std.proofs.Common.{rules}
use Rattle.dft_top.proofs.RunEnds.{no_line}
use Rattle.dft_top.proofs.command.deliver.Goals as goal

pub returns-in-Err-clause-delivered : goal.returns-in-Err-clause-delivered
returns-in-Err-clause-delivered g c = no_line _ _ _ _ (search rules)
