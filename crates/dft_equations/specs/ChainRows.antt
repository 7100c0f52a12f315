-- The rows of the cells of a chain, of which those of the first 64 places are kept.
use Rattle.std.specs.Prelude.{ℕ, Bool, false, ◌≡◌, ◌+◌, ◌*◌, ◌/◌, ◌%◌, ◌<◌, ◌≤◌, List, [], length, get_or, map}
use Rattle.std.specs.List.{range_with_len}
use Rattle.dft_base.specs.Solutions.{bit_at}

-- the row of a place: each 64 places further, the bits of a kept row are moved down by 64 times the channels
abbrev pub row_by : (columns channels : ℕ) → (kept : List (List Bool)) → (place : ℕ) → List Bool
row_by columns channels kept place =
    map (λ column. bit_at (get_or kept (place % 64) []) (column + 64 * (channels * (place / 64)))) (range_with_len 0 columns)

-- the rows of so many places
abbrev pub rows_by : (columns channels : ℕ) → (kept : List (List Bool)) → (places : ℕ) → List (List Bool)
rows_by columns channels kept places = map (row_by columns channels kept) (range_with_len 0 places)

-- the rows of the first 64 of so many places have all bits that are read of them, and none past the columns
pub record AreKept (columns channels : ℕ) (kept : List (List Bool)) (places : ℕ) : Type 0 where
  pub count : (place : ℕ) → place < places → place % 64 < length kept
  pub room : (place : ℕ) → place < places → columns + 64 * (channels * (place / 64)) ≤ length (get_or kept (place % 64) [])
  pub clear : (turn column : ℕ) → columns ≤ column → bit_at (get_or kept turn []) column ≡ false

-- these are a row, moved down by so many columns for each place, with room for so many words more
pub record AreMoved (first : List Bool) (channels more places : ℕ) (kept : List (List Bool)) : Type 0 where
  pub count : length kept ≡ places
  pub size : (turn : ℕ) → turn < places → length (get_or kept turn []) ≡ length first + 64 * more
  pub bits : (turn : ℕ) → turn < places → (column : ℕ) → bit_at (get_or kept turn []) column ≡ bit_at first (column + turn * channels)
