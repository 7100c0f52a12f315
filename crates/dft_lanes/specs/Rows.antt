-- Rows of bits that are packed into words: how many words so many columns take, and which bits the words hold.
use Rattle.std.specs.Prelude.{ℕ, Bool, false, ◌≡◌, ◌+◌, ◌/◌, ◌≤◌, List, length, map}
use Rattle.std.specs.List.{range_with_len}
use Rattle.dft_base.specs.Packed.{packed_bit}

-- the words that so many columns take
abbrev pub words_for : ℕ → ℕ
words_for columns = (columns + 63) / 64

-- the bits of the columns
abbrev pub bits_of : ℕ → List ℕ → List Bool
bits_of columns words = map (packed_bit words) (range_with_len 0 columns)

-- there are words for the columns, and no bit past them
pub record IsPacked (columns : ℕ) (words : List ℕ) : Type 0 where
  pub size : length words ≡ words_for columns
  pub clear : (column : ℕ) → columns ≤ column → packed_bit words column ≡ false
