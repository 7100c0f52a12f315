-- The copies so far are those of the first pins.
use Rattle.std.proofs.Common.{◌≡◌, take}
use Rattle.dft_cells.proofs.cell.Pins.copy.Given as goal

abbrev pub invariant-loop-pin : goal.invariant-loop-pin
invariant-loop-pin l = l.pins.items ≡ take l.pin-index l.self
