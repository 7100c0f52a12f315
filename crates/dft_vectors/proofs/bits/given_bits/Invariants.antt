-- What the bits so far give, and the rest.
use Rattle.std.proofs.Common.{◌≡◌, ◌<◌, ℕ, drop, length, get_or, None}
use Rattle.std.specs.Option.{option_or}
use Rattle.dft_expect.specs.Captures.{bit_of_port}
use Rattle.dft_vectors.proofs.bits.given_bits.Given as goal

abbrev pub invariant-loop-net : goal.invariant-loop-net
invariant-loop-net l = (length l.given.items ≡ l.end) × ((net : ℕ) → net < l.end → option_or (get_or l.given.items net None) (bit_of_port (drop l.net-index l.ports) net) ≡ bit_of_port l.ports net)
