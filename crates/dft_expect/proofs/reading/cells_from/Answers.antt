-- One cell more.
use Rattle.std.proofs.Common.{◌∙◌, None}
use Rattle.std.specs.Prelude.{slice_index_or}
use Rattle.std.proofs.lemmas.List.{get_or_default}
use Rattle.dft_base.specs.declared.tri.Tri.TheVariants.{Unknown}
use Rattle.dft_netlist.specs.declared.instance.Signal.TheVariants.{Net, Unconnected}
use Rattle.dft_evaluator.specs.Evaluations.{value_at}
use Rattle.dft_expect.specs.Reads.{read_at, read_value}
use Rattle.dft_expect.proofs.ReadLemmas.{values_more}
use Rattle.dft_expect.proofs.reading.cells_from.Goals as goal

pub loop-number-preserved : goal.loop-number-preserved
loop-number-preserved c =
    let values = value_at c.args.evaluator.now c.args.pattern in
    let reads = c.args.reads.now in
    values_more (λ number. read_value values c.args.edge.clock c.args.edge.rising (slice_index_or c.args.before.now number Unknown) (read_at reads number)) c.loop-number.cells.items c.push.new.self.items c.loop-number.number c.cell_after.result c.loop-number.invariant
    c.in_ok-push.ensures.items
    (c.cell_after.ensures
    ∙ (λ i. read_value values c.args.edge.clock c.args.edge.rising (c.value_of-before.ensures i) (get_or_default reads c.loop-number.number (record { clock = None; input = Net (record { 0 = 0 }) }) (record { clock = None; input = Unconnected }) c.loop-number-test.true i)))
