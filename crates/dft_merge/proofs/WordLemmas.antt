-- The bits of words.
use Rattle.std.proofs.Common.{ℕ, List, ◌≡◌, ◌==◌, ◌/◌, ◌%◌, ◌^◌, get_or, ap}
use Rattle.std.specs.Prelude.{bit_and}
use Rattle.std.proofs.lemmas.Nat.Bits.{shr_and_one}
use Rattle.dft_merge.specs.Fills.{bit_of_column}

-- the bit that is read is the column's
pub read_bit : (words : List ℕ) (column : ℕ) → (bit_and (get_or words (column / 32) 0 / 2 ^ (column % 32)) 1 == 1) ≡ bit_of_column words column
unfolding bit_of_column
read_bit words column = ap (λ (v : ℕ). v == 1) (shr_and_one (get_or words (column / 32) 0) (column % 32))
