use Rattle.std.proofs.Common.{◌≡◌, ◌++◌, drop}
use Rattle.dft_netlist.specs.Drivers.{shape_of}
use Rattle.dft_faults.specs.Faulty as spec
use Rattle.dft_faults.proofs.stuck.loosened_pins.Given as goal

abbrev pub invariant-loop-pin : goal.invariant-loop-pin
invariant-loop-pin l =
    l.pins ++ spec.loosened_pins l.net.0 (drop l.pin (shape_of l.cells l.instance.cell).roles) (drop l.pin l.instance.pins) ≡ spec.loosened_pins l.net.0 (shape_of l.cells l.instance.cell).roles l.instance.pins
