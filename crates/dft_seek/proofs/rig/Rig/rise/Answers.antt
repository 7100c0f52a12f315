-- One cell more.
use Rattle.std.proofs.Common.{arith}
use Rattle.dft_base.specs.declared.tri.Tri.TheVariants.{Unknown}
use Rattle.dft_seek.specs.Nodes.{risen_at}
use Rattle.dft_seek.proofs.Filled.{written_more}
use Rattle.dft_seek.proofs.rig.Rig.rise.Goals as goal

pub loop-cell-preserved : goal.loop-cell-preserved
loop-cell-preserved c = written_more (risen_at c.args.self.now c.args.cells.now c.args.values.now) c.loop-cell.risen Unknown c.risen.result c.loop-cell.cell (omega (arith, c.loop-cell-test.true, c.loop-cell.auto.risen)) c.risen.ensures c.loop-cell.invariant

pub returns-clause-each : goal.returns-clause-each
returns-clause-each c = λ k less. c.loop-cell.invariant k (omega (arith, less, c.loop-cell-test.false))
