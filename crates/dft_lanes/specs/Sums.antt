-- Sums of bits over GF(2).
use Rattle.std.specs.Prelude.{ℕ, Bool, ◌&&◌, ◌*◌, List, length}
use Rattle.dft_base.specs.Solutions.{sum_to}
use Rattle.dft_base.specs.Packed.{packed_bit}

-- the sum over the places of two rows of words, where a place counts that has bit 1 in both
unfoldable pub odd_common : List ℕ → List ℕ → Bool
odd_common a b = sum_to (64 * length a) (λ place. packed_bit a place && packed_bit b place)
