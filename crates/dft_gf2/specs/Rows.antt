-- Rows of an echelon form: what one sums, which column leads it, and the equations that the rows stand for.
use Rattle.std.specs.Prelude.{ℕ, zero, suc, Bool, true, false, ◌≡◌, ◌+◌, ◌<◌, List, [], ◌∷◌, ◌++◌, Option, Some, None, length, get_or, slice_set, is_some}
use Rattle.std.specs.List.{count_by}
use Rattle.dft_base.specs.Solutions.{xor, bit_at, Equation, odd_at, odd_bits}
use Rattle.dft_gf2.specs.Ends.{EndsAt}
use Rattle.dft_gf2.specs.declared.row.Row.{Row}

-- the row at a place
abbrev pub row_at : List Row → ℕ → Row
row_at rows i = get_or rows i (record { set = []; bit = false; sums = []; id = 0 })

-- the place of the row that a column leads
abbrev pub place_at : List (Option ℕ) → ℕ → Option ℕ
place_at places c = get_or places c None

-- a row of n columns, which can sum n equations
abbrev pub IsWide : ℕ → Row → Type 0
IsWide n row = (length row.set ≡ n) × (length row.sums ≡ n)

-- n rows of n columns
abbrev pub AreWide : ℕ → List Row → Type 0
AreWide n rows = (length rows ≡ n) × ((i : ℕ) → i < n → IsWide n (row_at rows i))

-- n rows of n columns, each of which can sum the equation at its own place and earlier ones
abbrev pub AreFitted : ℕ → List Row → Type 0
AreFitted n rows = (length rows ≡ n) × ((i : ℕ) → i < n → (length (row_at rows i).set ≡ n) × (length (row_at rows i).sums ≡ i + 1))

-- the row is the equation alone, and as wide as before
pub record IsStarted (row : List Bool) (bit : Bool) (id : ℕ) (old new : Row) : Type 0 where
  pub set : new.set ≡ row
  pub bit_is : new.bit ≡ bit
  pub sums : (j : ℕ) → bit_at new.sums j ≡ false
  pub sums_size : length new.sums ≡ length old.sums
  pub id_is : new.id ≡ id

-- the row is another one
pub record IsCopied (old other new : Row) : Type 0 where
  pub set : (c : ℕ) → bit_at new.set c ≡ bit_at other.set c
  pub bit_is : new.bit ≡ other.bit
  pub sums : (j : ℕ) → bit_at new.sums j ≡ bit_at other.sums j
  pub set_size : length new.set ≡ length old.set
  pub sums_size : length new.sums ≡ length old.sums
  pub id_is : new.id ≡ other.id

-- the other row is added
pub record IsAdded (old other new : Row) : Type 0 where
  pub set : (c : ℕ) → bit_at new.set c ≡ xor (bit_at old.set c) (bit_at other.set c)
  pub bit_is : new.bit ≡ xor old.bit other.bit
  pub sums : (j : ℕ) → bit_at new.sums j ≡ xor (bit_at old.sums j) (bit_at other.sums j)
  pub set_size : length new.set ≡ length old.set
  pub sums_size : length new.sums ≡ length old.sums
  pub id_is : new.id ≡ old.id

-- the column is the row's last one
abbrev pub IsLedBy : Row → ℕ → Type 0
IsLedBy row c = (bit_at row.set c ≡ true) × ((d : ℕ) → c < d → bit_at row.set d ≡ false)

-- each column that has a row leads it
abbrev pub AreLed : List Row → List (Option ℕ) → Type 0
AreLed rows places = (c i : ℕ) → place_at places c ≡ Some i → (i < length rows) × IsLedBy (row_at rows i) c

-- each row that a column leads sums none but the equation at its own place and earlier ones
abbrev pub NameEarlier : List Row → List (Option ℕ) → Type 0
NameEarlier rows places = (c i : ℕ) → place_at places c ≡ Some i → EndsAt (row_at rows i).sums i

-- the row holds no column
abbrev pub IsZero : Row → Type 0
IsZero row = (c : ℕ) → bit_at row.set c ≡ false

-- the column leads this row, and no other
abbrev pub IsNew : List (Option ℕ) → Row → ℕ → Type 0
IsNew places row c = (c < length places) × (place_at places c ≡ None) × IsLedBy row c

-- the row is the sum of the kept equations that it names
abbrev pub IsSumRow : ℕ → List Equation → Row → Type 0
IsSumRow n kept row = ((c : ℕ) → c < n → bit_at row.set c ≡ odd_at (bit_at row.sums) kept c) × (row.bit ≡ odd_bits (bit_at row.sums) kept)

-- so is each row that a column leads
abbrev pub AreSums : ℕ → List Equation → List Row → List (Option ℕ) → Type 0
AreSums n kept rows places = (c i : ℕ) → place_at places c ≡ Some i → IsSumRow n kept (row_at rows i)

-- the row and the kept equations that it names sum to this set and this bit
abbrev pub Means : ℕ → List Equation → Row → List Bool → Bool → Type 0
Means n kept row set bit =
    ((c : ℕ) → c < n → bit_at set c ≡ xor (bit_at row.set c) (odd_at (bit_at row.sums) kept c)) × (bit ≡ xor row.bit (odd_bits (bit_at row.sums) kept))

-- rows were added to it: it is as wide, has the same id, names no place that neither it nor they named, and means the same
pub record IsReduced (rows : List Row) (places : List (Option ℕ)) (old new : Row) : Type 0 where
  pub set_size : length new.set ≡ length old.set
  pub sums_size : length new.sums ≡ length old.sums
  pub id_is : new.id ≡ old.id
  pub later : (j : ℕ) → ((c i : ℕ) → place_at places c ≡ Some i → bit_at (row_at rows i).sums j ≡ false) → bit_at old.sums j ≡ false → bit_at new.sums j ≡ false
  pub means : (kept : List Equation) (set : List Bool) (bit : Bool) → AreSums (length places) kept rows places → Means (length places) kept old set bit → Means (length places) kept new set bit

-- the column is cleared, and those after it that were clear still are; or it leads no row, and nothing changed
abbrev pub IsCleared : List (Option ℕ) → ℕ → Row → Row → Bool → Type 0
IsCleared places column old new true = (bit_at new.set column ≡ false) × ((d : ℕ) → column < d → bit_at old.set d ≡ false → bit_at new.set d ≡ false)
IsCleared places column old new false = (bit_at old.set column ≡ true) × (place_at places column ≡ None) × (new ≡ old)

-- the row, which sums the equation at its own place too
abbrev pub with_own : ℕ → Row → Row
with_own place row = record { set = row.set; bit = row.bit; sums = slice_set row.sums place true; id = row.id }

-- the bits of a function at the first n places
unfoldable pub bits_to : ℕ → (ℕ → Bool) → List Bool
bits_to zero f = []
bits_to (suc n) f = bits_to n f ++ f n ∷ []

-- the equation that a row began from: its own set and bit, and those of the kept equations that it names
unfoldable pub restored : ℕ → List Equation → Row → Equation
restored n kept row = record {
  row = bits_to n (λ c. xor (bit_at row.set c) (odd_at (bit_at row.sums) kept c));
  bit = xor row.bit (odd_bits (bit_at row.sums) kept);
  id = row.id;
}

-- the equations that the first k rows began from
unfoldable pub kept_to : ℕ → List Row → ℕ → List Equation
kept_to n rows zero = []
kept_to n rows (suc k) = kept_to n rows k ++ restored n (kept_to n rows k) (row_at rows k) ∷ []

-- each kept row is led by one column of its own, and sums its own equation and earlier ones
pub record IsEchelon (n : ℕ) (rows : List Row) (places : List (Option ℕ)) (kept : ℕ) : Type 0 where
  pub wide : AreWide n rows
  pub columns : length places ≡ n
  pub count : count_by is_some places ≡ kept
  pub led : (c i : ℕ) → place_at places c ≡ Some i → (i < kept) × IsLedBy (row_at rows i) c
  pub leads : (i : ℕ) → i < kept → (c : ℕ) × (place_at places c ≡ Some i)
  pub own : (i : ℕ) → i < kept → bit_at (row_at rows i).sums i ≡ true
  pub later : (i j : ℕ) → i < kept → i < j → bit_at (row_at rows i).sums j ≡ false
