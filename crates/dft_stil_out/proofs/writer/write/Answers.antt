use Rattle.std.proofs.Common.{sym, subst}
use Rattle.dft_stil_out.specs.Laws.{ReadsBack}
use Rattle.dft_stil_out.proofs.WrittenStands.{stands_written}
use Rattle.dft_stil_out.proofs.writer.write.Goals as goal

pub returns-clause-reads : goal.returns-clause-reads
returns-clause-reads c = subst (ReadsBack c.args.set.now) (sym c.in_ok-text.ensures) (stands_written c.args.set.now)
