-- Items of a list with their numbers.
use Rattle.std.proofs.Common.{ℕ, zero, suc, ◌+◌, ◌≡◌, List, ◌∷◌, Some, slice_get, refl, sym, ap, arith, ◌∙◌, []}
use Rattle.std.proofs.lemmas.Option.{none-some, same_Some}
use Rattle.dft_scan_frame.specs.Moves.{map_from}

-- ---- lists

-- two walks that agree give the same
pub map_from_same : {A B : Type 0} (f g : ℕ → A → B) (i : ℕ) (xs : List A) → ((k : ℕ) (x : A) → slice_get xs k ≡ Some x → f (i + k) x ≡ g (i + k) x) → map_from f i xs ≡ map_from g i xs
map_from_same f g i [] same = refl
map_from_same f g i (x ∷ xs) same =
    let here : i + 0 ≡ i = omega arith in
    ap (λ y. y ∷ map_from f (suc i) xs) (ap (λ k. f k x) (sym here) ∙ same 0 x refl ∙ ap (λ k. g k x) here)
    ∙ ap (λ ys. g i x ∷ ys) (map_from_same f g (suc i) xs (λ k z at. let next : suc i + k ≡ i + suc k = omega arith in ap (λ j. f j z) next ∙ same (suc k) z at ∙ ap (λ j. g j z) (sym next)))

-- an item of a walk
pub from_at : {A B : Type 0} (f : ℕ → A → B) (i : ℕ) (xs : List A) (k : ℕ) (y : B) → slice_get (map_from f i xs) k ≡ Some y → (x : A) × (slice_get xs k ≡ Some x) × (f (i + k) x ≡ y)
from_at f i [] k y at = absurd (none-some y at)
from_at f i (x ∷ xs) zero y at = let here : i + 0 ≡ i = omega arith in (x, refl, ap (λ j. f j x) here ∙ same_Some (f i x) y at)
from_at f i (x ∷ xs) (suc k) y at =
    let it = from_at f (suc i) xs k y at in
    let next : i + suc k ≡ suc i + k = omega arith in
    (it.0, it.1, ap (λ j. f j it.0) next ∙ it.2)
