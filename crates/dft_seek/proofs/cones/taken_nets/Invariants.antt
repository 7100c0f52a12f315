-- The nets at the pins of the cells so far, with those of the others.
use Rattle.std.proofs.Common.{◌≡◌, ◌++◌, drop, flat_map}
use Rattle.dft_netlist.specs.Orders.{numbers_of}
use Rattle.dft_seek.specs.Pins.{pins_at, taken_by}
use Rattle.dft_seek.proofs.cones.taken_nets.Given as goal

abbrev pub invariant-loop-cell : goal.invariant-loop-cell
invariant-loop-cell l = numbers_of l.nets.items ++ flat_map (λ cell. taken_by (pins_at l.pins cell.0)) (drop l.cell-index l.cells) ≡ flat_map (λ cell. taken_by (pins_at l.pins cell.0)) l.cells
