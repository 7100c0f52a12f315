-- A question that is answered by a list.
use Rattle.std.specs.Prelude.{◌≡◌, ℕ, ◌<◌, ◌^◌, Bool, List, length}
use Rattle.dft_base.specs.Solutions.{bit_at}

-- each place below the length may be asked, and the answer is the list's bit there
abbrev pub AnswersLike : (ℕ → Type 0) → (ℕ → Bool → Type 0) → List Bool → Type 0
AnswersLike may gives like = (i : ℕ) → i < 2 ^ 32 → i < length like → may i × ((r : Bool) → gives i r → r ≡ bit_at like i)
