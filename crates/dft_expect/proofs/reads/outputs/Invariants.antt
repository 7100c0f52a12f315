-- The bits of the ports so far, with those of the others.
use Rattle.std.proofs.Common.{◌≡◌, ◌++◌, drop}
use Rattle.dft_expect.specs.Captures.{output_bits}
use Rattle.dft_expect.proofs.reads.outputs.Given as goal

abbrev pub invariant-loop-port : goal.invariant-loop-port
invariant-loop-port l = l.outputs.items ++ output_bits (drop l.port-index l.port-items) ≡ output_bits l.port-items
