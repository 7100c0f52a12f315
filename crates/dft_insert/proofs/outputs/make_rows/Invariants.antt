use Rattle.std.proofs.Common.{drop}
use Rattle.dft_insert.specs.Chained.{a_row}
use Rattle.dft_insert.proofs.MadeParts.{Rows}
use Rattle.dft_insert.proofs.outputs.make_rows.Given as goal

abbrev pub invariant-loop-chain : goal.invariant-loop-chain
invariant-loop-chain l = Rows (a_row l.design l.gap) l.chains.chains (drop l.chain l.chains.chains) l.fn.parts l.parts l.rows.items
