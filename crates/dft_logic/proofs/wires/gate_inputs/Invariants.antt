-- The inputs so far, and those of the rest of the pins.
use Rattle.std.proofs.Common.{◌≡◌, ◌++◌, map, drop}
use Rattle.dft_logic.specs.Circuit.{source_at}
use Rattle.dft_logic.specs.Compiling.{wired_at, inputs_in}
use Rattle.dft_logic.proofs.wires.gate_inputs.Given as goal

abbrev pub invariant-loop-wire : goal.invariant-loop-wire
invariant-loop-wire l = map source_at l.inputs ++ inputs_in (map wired_at (drop l.wire-index l.wires)) ≡ inputs_in (map wired_at l.wires)
