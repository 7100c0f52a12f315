use Rattle.dft_netlist.proofs.NotesLemmas.{kept_more, instances_step, item_at}
use Rattle.dft_netlist.proofs.drivers.note_instances.Goals as goal

pub note_instance-requires : goal.note_instance-requires
note_instance-requires c =
    let x = c.index-instances-number.result in
    let i = c.loop-number.number in
    rw c.loop-number.invariant.count (c.requires.sound i x (item_at c.args.instances.now i x c.loop-number-test.true c.index-instances-number.is))

pub loop-number-preserved : goal.loop-number-preserved
loop-number-preserved c =
    kept_more _ _ _ _ _ _ _ c.loop-number.invariant
    (instances_step c.args.cells.now c.args.instances.now c.loop-number.number c.index-instances-number.result c.loop-number-test.true c.index-instances-number.is)
    c.note_instance.ensures
