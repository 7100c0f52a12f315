use Rattle.std.proofs.Common.{◌∙◌}
use Rattle.dft_configure.specs.Good.{same_bits}
use Rattle.dft_configure.proofs.good.same_cells.Goals as goal

pub returns : goal.returns
returns c = c.same_bits.ensures ∙ (λ i. same_bits (c.columns-columns.ensures i) (λ k. c.of_cell-row.ensures.row k i) (λ k. c.of_cell.ensures.row k i))
