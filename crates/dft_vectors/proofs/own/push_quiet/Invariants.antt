-- The inputs so far, and the rest.
use Rattle.std.proofs.Common.{◌≡◌, ◌++◌, map, drop, false, None}
use Rattle.dft_expect.specs.Captures.{port_value}
use Rattle.dft_vectors.specs.OwnPorts.{driven}
use Rattle.dft_vectors.proofs.own.push_quiet.Given as goal

abbrev pub invariant-loop-input : goal.invariant-loop-input
invariant-loop-input l = l.acts.items ++ map (λ input. driven false (port_value input.is_reset None)) (drop l.input-index l.inputs) ≡ l.fn.acts.items ++ map (λ input. driven false (port_value input.is_reset None)) l.inputs
