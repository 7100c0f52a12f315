-- The bits so far, and the rest.
use Rattle.std.proofs.Common.{◌≡◌, ◌++◌, drop}
use Rattle.dft_expect.specs.Captures.{output_bits}
use Rattle.dft_vectors.proofs.bits.outputs.Given as goal

abbrev pub invariant-loop-port : goal.invariant-loop-port
invariant-loop-port l = l.bits.items ++ output_bits (drop l.port-index l.ports) ≡ output_bits l.ports
