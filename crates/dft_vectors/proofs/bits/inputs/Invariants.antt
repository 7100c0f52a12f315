-- The bits so far, and the rest.
use Rattle.std.proofs.Common.{◌≡◌, ◌++◌, drop}
use Rattle.dft_vectors.specs.Signals.{input_bits}
use Rattle.dft_vectors.proofs.bits.inputs.Given as goal

abbrev pub invariant-loop-port : goal.invariant-loop-port
invariant-loop-port l = l.bits.items ++ input_bits (drop l.port-index l.ports) ≡ input_bits l.ports
