-- What is wished of a configuration, and the numbers that follow.
use Rattle.std.specs.Prelude.{ℕ, ◌≤◌, max, Option, None, Some}
use Rattle.dft_decompressor.specs.Sizes.{rounded_up}
use Rattle.dft_configuring.specs.declared.wanted.Wanted.{Wanted}

-- a number, if there is one, is from 1 to this
abbrev pub IsUpTo : (most : ℕ) → Option ℕ → Type 0
IsUpTo most None = Unit {0}
IsUpTo most (Some number) = (1 ≤ number) × (number ≤ most)

-- one of the two is there
abbrev pub IsOne : (chains cells : Option ℕ) → Type 0
IsOne None None = ⊥
IsOne (Some chains) None = Unit {0}
IsOne None (Some cells) = Unit {0}
IsOne (Some chains) (Some cells) = ⊥

-- either the chains or their length is wished, and each number is within its bounds
pub record IsWanted (wanted : Wanted) : Type 0 where
  pub one : IsOne wanted.chains wanted.length
  pub chains : IsUpTo 1024 wanted.chains
  pub cells : IsUpTo 65536 wanted.length
  pub channels : (1 ≤ wanted.channels) × (wanted.channels ≤ 32)
  pub outputs : IsUpTo 32 wanted.outputs
  pub masks : IsUpTo 32 wanted.masks

-- the chains for so many scanned cells: as many as are wished, or the fewest that are not longer than is wished, at least one
abbrev pub chains_by : (chains length : Option ℕ) → (cells : ℕ) → ℕ
chains_by (Some chains) length cells = chains
chains_by None (Some length) cells = max 1 (rounded_up cells length)
chains_by None None cells = 1

abbrev pub chains_for : Wanted → (cells : ℕ) → ℕ
chains_for wanted cells = chains_by wanted.chains wanted.length cells
