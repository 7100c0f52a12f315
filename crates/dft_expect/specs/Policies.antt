-- A question about chains that is answered by a list.
use Rattle.std.specs.Prelude.{◌≡◌, ℕ, ◌<◌, ◌^◌, Bool, ◌||◌, List, length}
use Rattle.dft_base.specs.Solutions.{bit_at}

-- each chain below the length may be asked about, and is masked where something in it is unknown, or the list says so
abbrev pub MasksLike : (ℕ → Bool → Type 0) → (ℕ → Bool → Bool → Type 0) → List Bool → Type 0
MasksLike may gives always =
    (chain : ℕ) (unknown : Bool) → chain < 2 ^ 32 → chain < length always → may chain unknown × ((r : Bool) → gives chain unknown r → r ≡ (unknown || bit_at always chain))
