-- What the value and the constant share.
use Rattle.dft_fault_lanes.proofs.CellLemmas.{pressed_unknown}
use Rattle.dft_fault_lanes.proofs.cells.pressed_wide.Goals as goal

pub returns-in-Unknown : goal.returns-in-Unknown
returns-in-Unknown c = λ values is.
    pressed_unknown c.args.value c.args.pin c.wide_mux.result c.all-in-Unknown.result c.args.wide.now c.unknown.result c.known_bit-in-Unknown.result values
    c.in-Unknown.is c.known_bit-in-Unknown.ensures c.all-in-Unknown.ensures is c.unknown.ensures c.wide_mux.ensures
