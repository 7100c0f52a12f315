use Rattle.std.proofs.Common.{◌≡◌, drop}
use Rattle.dft_netlist.specs.Drivers.{shape_of}
use Rattle.dft_netlist.specs.Progress.{first_open}
use Rattle.dft_netlist.specs.Reading.{pins_read}
use Rattle.dft_netlist.proofs.order.first_open_pin.Given as goal

abbrev pub invariant-loop-pin : goal.invariant-loop-pin
invariant-loop-pin l =
    let shape = shape_of l.cells l.instance.cell in
    first_open l.states (pins_read shape.kind (drop l.pin shape.roles) (drop l.pin l.instance.pins)) ≡ first_open l.states (pins_read shape.kind shape.roles l.instance.pins)
