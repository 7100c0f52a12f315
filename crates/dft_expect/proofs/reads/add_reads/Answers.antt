-- One cell more.
use Rattle.std.proofs.lemmas.Option.{slice_get-get_or}
use Rattle.dft_expect.proofs.ReadLemmas.{reads_on}
use Rattle.dft_expect.proofs.reads.add_reads.Goals as goal

pub loop-cell-preserved : goal.loop-cell-preserved
loop-cell-preserved c = λ before are.
    reads_on c.args.design.now before c.args.cells.now c.loop-cell.cell-index _ c.read_of.result c.loop-cell.reads.items c.push.new.self.items (slice_get-get_or c.args.cells.now c.loop-cell.cell-index _ c.loop-cell-test.true) (c.loop-cell.invariant before are) c.read_of.ensures c.in_ok-push.ensures.items
