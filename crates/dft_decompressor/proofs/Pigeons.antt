-- Numbers that all stand in a list are no more than its items.
use Rattle.std.proofs.Common.{◌≡◌, ℕ, zero, suc, ◌<◌, ◌≤◌, ◌==◌, Bool, true, false, cond, ◌||◌, List, [], ◌∷◌, length, refl, ◌∙◌, ap, arith}
use Rattle.std.specs.List.{list_any}
use Rattle.std.proofs.lemmas.Bool.Decides.{nat_tests}

abbrev pub without : ℕ → List ℕ → List ℕ
without n [] = []
without n (x ∷ xs) = cond (x == n) (without n xs) (x ∷ without n xs)

abbrev pub stands_in : List ℕ → ℕ → Bool
stands_in xs n = list_any (λ x. x == n) xs

most_step : (b : Bool) (x : ℕ) (ys xs : List ℕ) → length ys ≤ length xs → length (cond b ys (x ∷ ys)) ≤ length (x ∷ xs)
most_step true x ys xs most = omega arith
most_step false x ys xs most = omega arith

without_most : (n : ℕ) (xs : List ℕ) → length (without n xs) ≤ length xs
without_most n [] = omega arith
without_most n (x ∷ xs) = most_step (x == n) x (without n xs) xs (without_most n xs)

less_step : (b rest : Bool) (x : ℕ) (ys xs : List ℕ) → length ys ≤ length xs → (rest ≡ true → suc (length ys) ≤ length xs) → (b || rest) ≡ true → suc (length (cond b ys (x ∷ ys))) ≤ length (x ∷ xs)
less_step true rest x ys xs most less is = omega arith
less_step false rest x ys xs most less is = let one = less is in omega (arith, one)

without_less : (n : ℕ) (xs : List ℕ) → stands_in xs n ≡ true → suc (length (without n xs)) ≤ length xs
without_less n [] is = cc
without_less n (x ∷ xs) is = less_step (x == n) (stands_in xs n) x (without n xs) xs (without_most n xs) (without_less n xs) is

keeps_step : (drops here rest : Bool) (m x : ℕ) (ys : List ℕ) → (drops ≡ true → here ≡ false) → (x == m) ≡ here → (rest ≡ true → stands_in ys m ≡ true) → (here || rest) ≡ true → stands_in (cond drops ys (x ∷ ys)) m ≡ true
keeps_step true true rest m x ys apart at keep is = let no : true ≡ false = apart refl in cc
keeps_step true false rest m x ys apart at keep is = keep is
keeps_step false true rest m x ys apart at keep is = ap (λ (b : Bool). b || stands_in ys m) at
keeps_step false false rest m x ys apart at keep is = ap (λ (b : Bool). b || stands_in ys m) at ∙ keep is

apart_at : (n m x : ℕ) → m < n → (x == n) ≡ true → (x == m) ≡ false
apart_at n m x less is = grind (arith, nat_tests)

without_keeps : (n m : ℕ) (xs : List ℕ) → m < n → stands_in xs m ≡ true → stands_in (without n xs) m ≡ true
without_keeps n m [] less is = is
without_keeps n m (x ∷ xs) less is = keeps_step (x == n) (x == m) (stands_in xs m) m x (without n xs) (apart_at n m x less) refl (without_keeps n m xs less) is

-- where the first n numbers stand in a list, it has n items at least
pub covered : (n : ℕ) (xs : List ℕ) → ((m : ℕ) → m < n → stands_in xs m ≡ true) → n ≤ length xs
covered zero xs all = omega arith
covered (suc n) xs all =
    let rest = covered n (without n xs) (λ m less. without_keeps n m xs less (all m (omega arith))) in
    let one = without_less n xs (all n (omega arith)) in
    omega (arith, rest, one)
