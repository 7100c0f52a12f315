use Rattle.std.proofs.Common.{drop}
use Rattle.dft_parts.proofs.Runs.{Collects}
use Rattle.dft_insert.specs.Chained.{an_output}
use Rattle.dft_insert.proofs.outputs.make_row.Given as goal

abbrev pub invariant-loop-cell : goal.invariant-loop-cell
invariant-loop-cell l = Collects (an_output l.design l.gap) l.cells (drop l.cell-index l.cells) l.fn.parts l.parts l.nets.items
