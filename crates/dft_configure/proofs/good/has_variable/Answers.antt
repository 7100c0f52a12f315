use Rattle.std.proofs.Common.{◌∙◌}
use Rattle.dft_configure.specs.Good.{has_bits}
use Rattle.dft_configure.proofs.good.has_variable.Goals as goal

pub returns : goal.returns
returns c = c.has_bits.ensures ∙ (λ i. has_bits (c.columns.ensures i) (λ k. c.of_cell.ensures.row k i))
