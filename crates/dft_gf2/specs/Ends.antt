-- Where a list of bits ends.
use Rattle.std.specs.Prelude.{ℕ, Bool, false, ◌≡◌, ◌<◌, List}
use Rattle.dft_base.specs.Solutions.{bit_at}

-- no bit past this place is 1
abbrev pub EndsAt : List Bool → ℕ → Type 0
EndsAt bits last = (k : ℕ) → last < k → bit_at bits k ≡ false
