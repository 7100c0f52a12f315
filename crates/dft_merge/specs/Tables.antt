-- Tables of bits: for each number its bit, if it has one.
use Rattle.std.specs.Prelude.{ℕ, Bool, ◌≡◌, ◌<◌, List, filter, get_or, Option, None, is_none}
use Rattle.std.specs.List.{All, list_any}
use Rattle.dft_merge.specs.Rows.{or_else}
use Rattle.dft_merge.specs.Placement.{bit_in, is_opposite}

-- the bit of a number, and none past the end
abbrev pub bit_of : List (Option Bool) → ℕ → Option Bool
bit_of table k = get_or table k None

-- the table has the bits that a list gives
abbrev pub IsTable : {T : Type 0} → (number : T → ℕ) → List (T × Bool) → List (Option Bool) → Type 0
IsTable number given table = (k : ℕ) → bit_of table k ≡ bit_in number given k

-- each number has the same bit
abbrev pub SameBits : List (Option Bool) → List (Option Bool) → Type 0
SameBits old new = (k : ℕ) → bit_of new k ≡ bit_of old k

-- each number of a list is below this one
abbrev pub AreBelow : {T : Type 0} → (number : T → ℕ) → ℕ → List (T × Bool) → Type 0
AreBelow number end given = All (λ g. number g.0 < end) given

-- whether one of these has the opposite bit in the table
abbrev pub opposes_by : {T : Type 0} → (number : T → ℕ) → List (Option Bool) → List (T × Bool) → Bool
opposes_by number table given = list_any (λ g. is_opposite (bit_of table (number g.0)) g.1) given

-- those that have no bit in the table
abbrev pub missing_by : {T : Type 0} → (number : T → ℕ) → List (Option Bool) → List (T × Bool) → List (T × Bool)
missing_by number table given = filter (λ g. is_none (bit_of table (number g.0))) given

-- the table with the bits of a list, where it had none
abbrev pub IsNoted : {T : Type 0} → (number : T → ℕ) → List (Option Bool) → List (T × Bool) → List (Option Bool) → Type 0
IsNoted number old given new = (k : ℕ) → bit_of new k ≡ or_else (bit_of old k) (bit_in number given k)
