-- The rest of the pins has what all of them have.
use Rattle.std.proofs.Common.{◌≡◌, map, drop}
use Rattle.dft_logic.specs.Compiling.{wired_at, found_in}
use Rattle.dft_logic.proofs.wires.find.Given as goal

abbrev pub invariant-loop-wire : goal.invariant-loop-wire
invariant-loop-wire l = found_in l.role (map wired_at (drop l.wire-index l.wires)) ≡ found_in l.role (map wired_at l.wires)
