-- Values that may be absent.
use Rattle.std.proofs.Common.{◌≡◌, true, Option, None, Some, is_some, refl, false, Bool, cond, option_map, ℕ}
use Rattle.dft_base.specs.Lexing.{Text}

pub some_of : {A : Type 0} (o : Option A) → is_some o ≡ true → (x : A) × (o ≡ Some x)
some_of None e = absurd cc
some_of (Some x) e = (x, refl)

pub none_of : {A : Type 0} (o : Option A) → is_some o ≡ false → o ≡ None
none_of None h = refl
none_of (Some a) h = absurd (cc)

pub none_by : (b : Bool) (x : Text) (r : Option Text) → b ≡ false → r ≡ None → cond b (Some x) r ≡ None
none_by true x r h e = absurd (cc)
none_by false x r h e = e

pub some_mapped : (f : ℕ → ℕ × Bool) (o : Option ℕ) → is_some (option_map f o) ≡ is_some o
some_mapped f None = refl
some_mapped f (Some x) = refl
