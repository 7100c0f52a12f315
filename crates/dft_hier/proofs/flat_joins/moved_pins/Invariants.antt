-- The pins so far.
use Rattle.std.proofs.Common.{◌≡◌, map, take}
use Rattle.dft_hier.specs.Flat.{moved}
use Rattle.dft_hier.proofs.flat_joins.moved_pins.Given as goal

abbrev pub invariant-loop-pin : goal.invariant-loop-pin
invariant-loop-pin l = l.signals ≡ map (moved l.first) (take l.pin-index l.pins)
