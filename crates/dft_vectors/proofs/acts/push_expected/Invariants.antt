-- The bits so far, and the rest.
use Rattle.std.proofs.Common.{◌≡◌, ◌++◌, map, drop}
use Rattle.dft_vectors.specs.OwnPorts.{expect}
use Rattle.dft_vectors.proofs.acts.push_expected.Given as goal

abbrev pub invariant-loop-bit : goal.invariant-loop-bit
invariant-loop-bit l = l.acts.items ++ map expect (drop l.bit-index l.bits) ≡ l.fn.acts.items ++ map expect l.bits
