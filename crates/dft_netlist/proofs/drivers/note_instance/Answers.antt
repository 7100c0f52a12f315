use Rattle.std.proofs.Common.{◌<◌, length}
use Rattle.dft_netlist.specs.Drivers.{shape_of}
use Rattle.dft_netlist.proofs.NotesLemmas.{kept_more, pins_more}
use Rattle.dft_netlist.proofs.drivers.note_instance.Goals as goal

pub loop-pin-preserved : goal.loop-pin-preserved
loop-pin-preserved c =
    let lt : c.loop-pin.pin < length c.args.instance.now.pins = rw (← c.as_slice-signal-items.ensures) c.loop-pin-test.true in
    kept_more _ _ _ _ _ _ _ c.loop-pin.invariant
    (pins_more c.args.id.0 (shape_of c.args.cells.now c.args.instance.now.cell).roles c.args.instance.now.pins c.loop-pin.pin c.known_role-role.result _ lt c.known_role-role.ensures)
    (rw c.as_slice-signal-items.ensures at c.note_pin.ensures)
