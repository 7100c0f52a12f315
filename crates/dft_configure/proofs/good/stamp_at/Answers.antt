use Rattle.std.proofs.Common.{◌∙◌}
use Rattle.dft_configure.specs.Seen.{stamp_upto}
use Rattle.dft_configure.proofs.good.stamp_at.Goals as goal

pub returns : goal.returns
returns c = c.stamp_of.ensures ∙ (λ i. stamp_upto (c.columns.ensures i) (λ k. c.of_cell.ensures.row k i))
