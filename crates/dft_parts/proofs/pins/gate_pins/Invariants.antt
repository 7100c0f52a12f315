use Rattle.std.proofs.Common.{◌≡◌, ◌++◌, drop}
use Rattle.dft_parts.specs.Recipes.{at_nets}
use Rattle.dft_parts.proofs.pins.gate_pins.Given as goal

abbrev pub invariant-loop-net : goal.invariant-loop-net
invariant-loop-net l = l.pins ++ at_nets (drop l.net-index l.inputs) ≡ at_nets l.inputs
