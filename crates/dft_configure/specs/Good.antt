-- Load equations by which any one cell and any two cells can be given any bits.
use Rattle.std.specs.Prelude.{ℕ, ◌≡◌, ◌↔◌, ◌<◌, Bool, true, not, ◌&&◌, List, [], ◌∷◌, length}
use Rattle.std.specs.List.{list_all, list_any, range_with_len, slice_index}
use Rattle.dft_base.specs.Solutions.{Equation, IsSolvable, bit_at, xor}
use Rattle.dft_equations.specs.LoadRows.{LoadRows, AreWide, IsCell, row_of, rows_of}

-- some variable is in a load equation
abbrev pub HasVariable : (columns : ℕ) → (row : List Bool) → Type 0
HasVariable columns row = (column : ℕ) × ((column < columns) × (bit_at row column ≡ true))

-- The load equations of chains are good where none is empty and no two are the same.
pub record AreGood (rows : LoadRows) : Type 0 where
  pub some : (chain place : ℕ) → IsCell rows chain place → HasVariable rows.columns (row_of rows chain place)
  pub differ : (chain place other spot : ℕ) → IsCell rows chain place → IsCell rows other spot → row_of rows chain place ≡ row_of rows other spot → (chain ≡ other) × (place ≡ spot)

-- a care bit of a cell, as an equation
abbrev pub care_bit : LoadRows → (chain place : ℕ) → (bit : Bool) → Equation
care_bit rows chain place bit = record { row = row_of rows chain place; bit = bit; id = 0 }

-- some channel bits load any bit into any cell
abbrev pub OneIsLoaded : LoadRows → Type 0
OneIsLoaded rows = (chain place : ℕ) (bit : Bool) → IsCell rows chain place → IsSolvable rows.columns (care_bit rows chain place bit ∷ [])

-- some channel bits load any bits into any two cells
abbrev pub TwoAreLoaded : LoadRows → Type 0
TwoAreLoaded rows =
    (chain place other spot : ℕ) (bit second : Bool) → IsCell rows chain place → IsCell rows other spot → ((chain ≡ other) × (place ≡ spot) → ⊥) →
    IsSolvable rows.columns (care_bit rows chain place bit ∷ care_bit rows other spot second ∷ [])

-- Where the load equations of chains are good, no cube of one or two care bits is unsolvable.
abbrev pub PairsAreLoaded : Type 0
PairsAreLoaded = (rows : LoadRows) → AreWide rows.columns rows.chains → AreGood rows → OneIsLoaded rows × TwoAreLoaded rows

-- ---- the test

-- whether two load equations hold the same variables, and whether one holds any
abbrev pub same_bits : (columns : ℕ) → (bits others : ℕ → Bool) → Bool
same_bits columns bits others = list_all (λ column. not (xor (bits column) (others column))) (range_with_len 0 columns)

abbrev pub has_bits : (columns : ℕ) → (bits : ℕ → Bool) → Bool
has_bits columns bits = list_any bits (range_with_len 0 columns)

-- whether a load equation stands at one of the first so many places of a chain
abbrev pub stands_in : LoadRows → (row : List Bool) → (chain places : ℕ) → Bool
stands_in rows row chain places = list_any (λ place. same_bits rows.columns (bit_at row) (bit_at (row_of rows chain place))) (range_with_len 0 places)

-- whether that of a cell stands in a chain before
abbrev pub stands_above : LoadRows → (chain place : ℕ) → Bool
stands_above rows chain place = list_any (λ other. stands_in rows (row_of rows chain place) other (length (rows_of rows other))) (range_with_len 0 chain)

-- whether that of a cell stands in no chain before, nor at a place before in its own
abbrev pub is_alone : LoadRows → (chain place : ℕ) → Bool
is_alone rows chain place = not (stands_above rows chain place) && not (stands_in rows (row_of rows chain place) chain place)

-- whether it is not empty, and is alone
abbrev pub is_good_cell : LoadRows → (chain place : ℕ) → Bool
is_good_cell rows chain place = has_bits rows.columns (bit_at (row_of rows chain place)) && is_alone rows chain place

abbrev pub is_good_chain : LoadRows → (chain : ℕ) → Bool
is_good_chain rows chain = list_all (is_good_cell rows chain) (range_with_len 0 (length (rows_of rows chain)))

-- whether all load equations are good
abbrev pub is_good : LoadRows → Bool
is_good rows = list_all (is_good_chain rows) (range_with_len 0 (length rows.chains))

-- the chains have these lengths
pub record HaveLengths (rows : LoadRows) (lengths : List ℕ) : Type 0 where
  pub chains : length rows.chains ≡ length lengths
  pub cells : (chain : ℕ) → chain < length lengths → length (rows_of rows chain) ≡ slice_index lengths chain

-- The test passes exactly where no load equation is empty and no two are the same.
abbrev pub TestedAreGood : Type 0
TestedAreGood = (rows : LoadRows) → AreWide rows.columns rows.chains → (is_good rows ≡ true) ↔ AreGood rows
