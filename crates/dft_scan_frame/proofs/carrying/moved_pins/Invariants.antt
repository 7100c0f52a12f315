use Rattle.std.proofs.Common.{◌≡◌, ◌++◌, drop, map}
use Rattle.dft_scan_frame.specs.Moves.{moved_signal}
use Rattle.dft_scan_frame.proofs.carrying.moved_pins.Given as goal

abbrev pub invariant-loop-pin : goal.invariant-loop-pin
invariant-loop-pin l = l.moved ++ map (moved_signal l.gap) (drop l.pin-index l.pins) ≡ map (moved_signal l.gap) l.pins
