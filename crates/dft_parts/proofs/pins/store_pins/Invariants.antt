use Rattle.std.proofs.Common.{◌≡◌, ◌++◌, drop, map}
use Rattle.dft_cells.specs.WellFormed.{role_of}
use Rattle.dft_parts.specs.Cells.{pin_between}
use Rattle.dft_parts.proofs.pins.store_pins.Given as goal

abbrev pub invariant-loop-pin : goal.invariant-loop-pin
invariant-loop-pin l =
    l.pins ++ map (pin_between l.nets.clock l.nets.input l.nets.output) (map role_of (drop l.pin-index l.cell_pins)) ≡ map (pin_between l.nets.clock l.nets.input l.nets.output) (map role_of l.cell_pins)
