-- The values so far, and the rest.
use Rattle.std.proofs.Common.{◌≡◌, ◌++◌, map, drop}
use Rattle.dft_vectors.specs.OwnPorts.{compare}
use Rattle.dft_vectors.proofs.acts.push_compared.Given as goal

abbrev pub invariant-loop-value : goal.invariant-loop-value
invariant-loop-value l = l.acts.items ++ map compare (drop l.value-index l.values) ≡ l.fn.acts.items ++ map compare l.values
