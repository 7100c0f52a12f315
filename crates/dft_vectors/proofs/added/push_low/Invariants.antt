-- The ports so far.
use Rattle.std.proofs.Common.{◌≡◌, ◌++◌}
use Rattle.dft_vectors.specs.AddedPorts.{set_all, no_bits}
use Rattle.dft_vectors.proofs.added.push_low.Given as goal

abbrev pub invariant-loop-port : goal.invariant-loop-port
invariant-loop-port l = l.acts.items ≡ l.fn.acts.items ++ set_all l._port no_bits
