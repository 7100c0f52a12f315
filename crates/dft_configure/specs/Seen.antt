-- Stamps of load equations: those that hold the same variables have the same stamp.
use Rattle.std.specs.Prelude.{ℕ, zero, suc, ◌≡◌, ◌<◌, ◌⊎◌, Bool, true}
use Rattle.dft_base.specs.Solutions.{bit_at}
use Rattle.dft_equations.specs.LoadRows.{LoadRows, IsCell, row_of}
use Rattle.dft_decompressor.specs.Stamps.{carried}

-- the stamp of the first so many bits
abbrev pub stamp_upto : (columns : ℕ) → (bits : ℕ → Bool) → ℕ
stamp_upto zero bits = 0
stamp_upto (suc n) bits = carried (stamp_upto n bits) (bits n)

-- that of the load equation of a cell
abbrev pub stamp_at : LoadRows → (chain place : ℕ) → ℕ
stamp_at rows chain place = stamp_upto rows.columns (bit_at (row_of rows chain place))

-- a cell stands before another: in a chain before, or at a place before in its own
abbrev pub IsBefore : (other spot chain place : ℕ) → Type 0
IsBefore other spot chain place = (other < chain) ⊎ ((other ≡ chain) × (spot < place))

-- the stamps of all cells before one were seen
abbrev pub AreSeen : LoadRows → (chain place : ℕ) → (seen : ℕ → Bool) → Type 0
AreSeen rows chain place seen = (other spot : ℕ) → IsCell rows other spot → IsBefore other spot chain place → seen (stamp_at rows other spot) ≡ true
