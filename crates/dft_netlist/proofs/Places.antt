-- Elements of lists by their places: one list behind another, and one element more.
use Rattle.std.proofs.Common.{◌≡◌, ℕ, zero, suc, List, [], ◌∷◌, ◌++◌, length, map, Option, Some, refl, ap, subst, ◌⊎◌, inl, inr, slice_get, slice_set}
use Rattle.std.proofs.lemmas.Option.{same_Some}
use Rattle.std.specs.Option.{option_and_then}

pub get_push : {X : Type 0} (xs : List X) (x : X) → slice_get (xs ++ x ∷ []) (length xs) ≡ Some x
get_push [] x = refl
get_push (y ∷ xs) x = get_push xs x

abbrev pub IsNew : {X : Type 0} → List X → X → ℕ → X → Type 0
IsNew xs x k y = (k ≡ length xs) × (x ≡ y)

pub push_cases : {X : Type 0} (xs : List X) (x : X) (k : ℕ) (y : X) → slice_get (xs ++ x ∷ []) k ≡ Some y → (slice_get xs k ≡ Some y) ⊎ IsNew xs x k y
push_cases [] x zero y h = inr (refl, cc)
push_cases [] x (suc k) y h = absurd (cc)
push_cases (z ∷ xs) x zero y h = inl h
push_cases (z ∷ xs) x (suc k) y h = elim (push_cases xs x k y h) [ inl old ↦ inl old | inr new ↦ inr (ap suc new.0, new.1) ]

-- the same of what the elements show
pub shown_left : {X Y : Type 0} (f : X → Option Y) (xs ys : List X) (k : ℕ) (y : Y) → option_and_then f (slice_get xs k) ≡ Some y → option_and_then f (slice_get (xs ++ ys) k) ≡ Some y
shown_left f [] ys k y h = absurd (cc)
shown_left f (x ∷ xs) ys zero y h = h
shown_left f (x ∷ xs) ys (suc k) y h = shown_left f xs ys k y h

pub shown_push : {X Y : Type 0} (f : X → Option Y) (xs : List X) (x : X) → option_and_then f (slice_get (xs ++ x ∷ []) (length xs)) ≡ f x
shown_push f [] x = refl
shown_push f (y ∷ xs) x = shown_push f xs x

abbrev pub ShowsNew : {X Y : Type 0} → (X → Option Y) → List X → X → ℕ → Y → Type 0
ShowsNew f xs x k y = (k ≡ length xs) × (f x ≡ Some y)

pub shown_cases : {X Y : Type 0} (f : X → Option Y) (xs : List X) (x : X) (k : ℕ) (y : Y) → option_and_then f (slice_get (xs ++ x ∷ []) k) ≡ Some y → (option_and_then f (slice_get xs k) ≡ Some y) ⊎ ShowsNew f xs x k y
shown_cases f [] x zero y h = inr (refl, h)
shown_cases f [] x (suc k) y h = absurd (cc)
shown_cases f (z ∷ xs) x zero y h = inl h
shown_cases f (z ∷ xs) x (suc k) y h = elim (shown_cases f xs x k y h) [ inl old ↦ inl old | inr new ↦ inr (ap suc new.0, new.1) ]

-- a list with one element changed
pub set_cases : {X : Type 0} (xs : List X) (i : ℕ) (y : X) (k : ℕ) (z : X) → slice_get (slice_set xs i y) k ≡ Some z → (slice_get xs k ≡ Some z) ⊎ (y ≡ z)
set_cases [] i y k z h = absurd (cc)
set_cases (x ∷ xs) zero y zero z h = inr (cc)
set_cases (x ∷ xs) zero y (suc k) z h = inl h
set_cases (x ∷ xs) (suc i) y zero z h = inl h
set_cases (x ∷ xs) (suc i) y (suc k) z h = set_cases xs i y k z h

pub shown_set : {X Y : Type 0} (f : X → Option Y) (xs : List X) (i : ℕ) (x y : X) (k : ℕ) → slice_get xs i ≡ Some x → f y ≡ f x → option_and_then f (slice_get (slice_set xs i y) k) ≡ option_and_then f (slice_get xs k)
shown_set f [] i x y k at same = refl
shown_set f (z ∷ xs) zero x y zero at same = let e : z ≡ x = cc in rw e same
shown_set f (z ∷ xs) zero x y (suc k) at same = refl
shown_set f (z ∷ xs) (suc i) x y zero at same = refl
shown_set f (z ∷ xs) (suc i) x y (suc k) at same = shown_set f xs i x y k at same

-- ---- what holds of each

pub each_both : {X : Type 0} (P : X → Type 0) (xs ys : List X) → ((k : ℕ) (x : X) → slice_get xs k ≡ Some x → P x) → ((k : ℕ) (x : X) → slice_get ys k ≡ Some x → P x) → (k : ℕ) (x : X) → slice_get (xs ++ ys) k ≡ Some x → P x
each_both P [] ys h g k x at = g k x at
each_both P (y ∷ xs) ys h g zero x at = h zero x at
each_both P (y ∷ xs) ys h g (suc k) x at = each_both P xs ys (λ i z there. h (suc i) z there) g k x at

pub each_made : {X : Type 0} (P : X → Type 0) (f : ℕ → X) (xs : List ℕ) → ((k i : ℕ) → slice_get xs k ≡ Some i → P (f i)) → (k : ℕ) (x : X) → slice_get (map f xs) k ≡ Some x → P x
each_made P f [] h k x at = absurd (cc)
each_made P f (i ∷ is) h zero x at = subst P (same_Some (f i) x at) (h zero i refl)
each_made P f (i ∷ is) h (suc k) x at = each_made P f is (λ j y there. h (suc j) y there) k x at
