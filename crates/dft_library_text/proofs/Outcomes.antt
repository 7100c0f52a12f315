-- What a reading that gives a value went through.
use Rattle.std.proofs.Common.{◌≡◌, Bool, true, false, List, ◌∷◌, Option, Some, None, Result, Ok, Err, refl}
use Rattle.dft_library_text.specs.Refusals.{needed, checked, after, cons_ok}

pub needed_ok : {E A B : Type 0} (e : E) (o : Option A) (next : A → Result B E) (b : B) → needed e o next ≡ Ok b → (a : A) × (o ≡ Some a) × (next a ≡ Ok b)
needed_ok e None next b h = absurd (cc)
needed_ok e (Some a) next b h = (a, refl, h)

pub checked_ok : {E B : Type 0} (t : Bool) (e : E) (next : Result B E) (b : B) → checked t e next ≡ Ok b → (t ≡ true) × (next ≡ Ok b)
checked_ok true e next b h = (refl, h)
checked_ok false e next b h = absurd (cc)

pub after_ok : {E A B : Type 0} (r : Result A E) (next : A → Result B E) (b : B) → after r next ≡ Ok b → (a : A) × (r ≡ Ok a) × (next a ≡ Ok b)
after_ok (Ok a) next b h = (a, refl, h)
after_ok (Err e) next b h = absurd (cc)

pub cons_parts : {E A : Type 0} (first : Result A E) (rest : Result (List A) E) (all : List A) → cons_ok first rest ≡ Ok all
    → (x : A) × (xs : List A) × (first ≡ Ok x) × (rest ≡ Ok xs) × (all ≡ x ∷ xs)
cons_parts (Err e) rest all h = absurd (cc)
cons_parts (Ok x) (Err e) all h = absurd (cc)
cons_parts (Ok x) (Ok xs) all h = (x, xs, refl, refl, cc)
