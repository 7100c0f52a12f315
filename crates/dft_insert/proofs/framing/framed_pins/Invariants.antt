use Rattle.std.proofs.Common.{◌≡◌, ◌≤◌, ◌++◌, drop, map}
use Rattle.dft_cells.specs.WellFormed.{role_of}
use Rattle.dft_netlist.specs.declared.instance.Signal.TheVariants.{Net}
use Rattle.dft_insert.specs.Frame.{framed_pins}
use Rattle.dft_insert.proofs.framing.framed_pins.Given as goal

abbrev pub invariant-loop-pin : goal.invariant-loop-pin
invariant-loop-pin l =
    (l.taken ≤ l.pin-index)
    × (l.made ++ framed_pins (Net l.enable) (map role_of (drop l.pin-index l.roles)) (drop l.taken l.pins) ≡ framed_pins (Net l.enable) (map role_of l.roles) l.pins)
