-- What the kernels' clauses say of the sets of columns that packed rows stand for.
use Rattle.std.specs.Prelude.{ℕ, true, false, ◌≡◌, ◌<◌, List, bit_xor}
use Rattle.std.specs.Simd.Lanes.{zip2}
use Rattle.dft_base.specs.Solutions.{xor, bit_at, sum_over}
use Rattle.dft_base.specs.Packed.{packed_bit}
use Rattle.dft_lanes.specs.Rows.{bits_of, IsPacked}
use Rattle.dft_lanes.specs.Sums.{odd_common}

-- the words that two rows sum to are a row, whose bit in each column is the sum of theirs
abbrev pub SumIsByBits : Type 0
SumIsByBits =
    (n : ℕ) (a b : List ℕ) → IsPacked n a → IsPacked n b →
    IsPacked n (zip2 bit_xor a b) × ((c : ℕ) → bit_at (bits_of n (zip2 bit_xor a b)) c ≡ xor (bit_at (bits_of n a) c) (bit_at (bits_of n b) c))

-- the greatest place of a row with bit 1 is the last column that is in its set
abbrev pub HighestIsLast : Type 0
HighestIsLast =
    (n : ℕ) (words : List ℕ) (top : ℕ) → IsPacked n words → packed_bit words top ≡ true → ((place : ℕ) → top < place → packed_bit words place ≡ false) →
    (top < n) × (bit_at (bits_of n words) top ≡ true) × ((c : ℕ) → top < c → bit_at (bits_of n words) c ≡ false)

-- the parity of what two rows have in common is the sum of the one's table over the other's set
abbrev pub ParityIsSum : Type 0
ParityIsSum =
    (n : ℕ) (a b : List ℕ) → IsPacked n a → IsPacked n b → odd_common a b ≡ sum_over n (bits_of n a) (bit_at (bits_of n b))
