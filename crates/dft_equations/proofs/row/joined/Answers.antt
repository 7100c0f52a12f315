use Rattle.std.proofs.Common.{arith}
use Rattle.dft_equations.proofs.RowLemmas.{joined_low, joined_high}
use Rattle.dft_equations.proofs.row.joined.Goals as goal

pub returns-else-place-eq0-clause-low : goal.returns-else-place-eq0-clause-low
returns-else-place-eq0-clause-low c = λ i h. joined_low c.args.low c.args.high c.args.place i (omega arith) h

pub returns-else-place-eq0-clause-high : goal.returns-else-place-eq0-clause-high
returns-else-place-eq0-clause-high c = λ i within h. joined_high c.args.low c.args.high c.args.place i (omega arith) (omega arith) within h
