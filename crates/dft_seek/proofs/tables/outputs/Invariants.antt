-- The bits of the ports so far, with those of the others.
use Rattle.std.proofs.Common.{◌≡◌, ◌++◌, drop}
use Rattle.dft_expect.specs.Captures.{output_bits}
use Rattle.dft_seek.proofs.tables.outputs.Given as goal

abbrev pub invariant-loop-port : goal.invariant-loop-port
invariant-loop-port l = l.nets.items ++ output_bits (drop l.port-index l.ports) ≡ output_bits l.ports
