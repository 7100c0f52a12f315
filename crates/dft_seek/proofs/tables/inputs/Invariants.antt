-- The bits of the ports so far, with those of the others.
use Rattle.std.proofs.Common.{◌≡◌, ◌++◌, drop}
use Rattle.dft_seek.specs.Searches.{input_bits}
use Rattle.dft_seek.proofs.tables.inputs.Given as goal

abbrev pub invariant-loop-port : goal.invariant-loop-port
invariant-loop-port l = l.nets.items ++ input_bits (drop l.port-index l.ports) ≡ input_bits l.ports
