-- Lists in which nothing stands twice.
use Rattle.std.proofs.Common.{ℕ, zero, suc, ◌≡◌, ◌∙◌, ◌⊎◌, inl, inr, ◌||◌, Bool, true, false, List, [], ◌∷◌, ◌++◌, filter, map, Some, slice_get, refl, sym, ap, subst, arith}
use Rattle.std.specs.Prelude.{if◌then◌else◌}
use Rattle.std.specs.List.{list_any}
use Rattle.std.proofs.lemmas.Option.{none-some, same_Some}

-- it stands there
abbrev pub StandsIn : {X : Type 0} → List X → X → Type 0
StandsIn {X} xs x = (k : ℕ) × (slice_get xs k ≡ Some x)

abbrev pub AreApart : {X : Type 0} → List X → Type 0
AreApart [] = Unit {0}
AreApart (x ∷ xs) = (StandsIn xs x → ⊥) × AreApart xs

pub none_stands : {X : Type 0} (x : X) → StandsIn [] x → ⊥
none_stands x s = none-some x s.1

later : {X : Type 0} (y x : X) (xs : List X) → StandsIn xs x → StandsIn (y ∷ xs) x
later y x xs s = (suc s.0, s.1)

-- what stands at one place at most
pub apart_by : {X : Type 0} (xs : List X) → ((a b : ℕ) (x : X) → slice_get xs a ≡ Some x → slice_get xs b ≡ Some x → a ≡ b) → AreApart xs
apart_by [] once = tt
apart_by (x ∷ xs) once = (λ s. absurd (let e = once 0 (suc s.0) x refl s.1 in omega (arith, e)), apart_by xs (λ a b y p q. (let e = once (suc a) (suc b) y p q in omega (arith, e))))

-- ---- one list behind another

behind_by : {X : Type 0} (y x : X) (xs ys : List X) → StandsIn xs x ⊎ StandsIn ys x → StandsIn (y ∷ xs) x ⊎ StandsIn ys x
behind_by y x xs ys (inl s) = inl (later y x xs s)
behind_by y x xs ys (inr s) = inr s

one_of_at : {X : Type 0} (xs ys : List X) (x : X) (k : ℕ) → slice_get (xs ++ ys) k ≡ Some x → StandsIn xs x ⊎ StandsIn ys x
one_of_at [] ys x k at = inr (k, at)
one_of_at (y ∷ xs) ys x zero at = inl (0, at)
one_of_at (y ∷ xs) ys x (suc k) at = behind_by y x xs ys (one_of_at xs ys x k at)

pub one_of : {X : Type 0} (xs ys : List X) (x : X) → StandsIn (xs ++ ys) x → StandsIn xs x ⊎ StandsIn ys x
one_of xs ys x s = one_of_at xs ys x s.0 s.1

front_at : {X : Type 0} (xs ys : List X) (x : X) (k : ℕ) → slice_get xs k ≡ Some x → StandsIn (xs ++ ys) x
front_at [] ys x k at = absurd (none-some x at)
front_at (y ∷ xs) ys x zero at = (0, at)
front_at (y ∷ xs) ys x (suc k) at = later y x (xs ++ ys) (front_at xs ys x k at)

pub in_front : {X : Type 0} (xs ys : List X) (x : X) → StandsIn xs x → StandsIn (xs ++ ys) x
in_front xs ys x s = front_at xs ys x s.0 s.1

pub in_back : {X : Type 0} (xs ys : List X) (x : X) → StandsIn ys x → StandsIn (xs ++ ys) x
in_back [] ys x s = s
in_back (y ∷ xs) ys x s = later y x (xs ++ ys) (in_back xs ys x s)

pub apart_front : {X : Type 0} (xs ys : List X) → AreApart (xs ++ ys) → AreApart xs
apart_front [] ys all = tt
apart_front (x ∷ xs) ys all = (λ s. all.0 (in_front xs ys x s), apart_front xs ys all.1)

pub apart_back : {X : Type 0} (xs ys : List X) → AreApart (xs ++ ys) → AreApart ys
apart_back [] ys all = all
apart_back (x ∷ xs) ys all = apart_back xs ys all.1

across_at : {X : Type 0} (xs ys : List X) (x : X) (k : ℕ) → AreApart (xs ++ ys) → slice_get xs k ≡ Some x → StandsIn ys x → ⊥
across_at [] ys x k all at there = none-some x at
across_at (y ∷ xs) ys x zero all at there = all.0 (in_back xs ys y (subst (StandsIn ys) (sym (same_Some y x at)) there))
across_at (y ∷ xs) ys x (suc k) all at there = across_at xs ys x k all.1 at there

pub across : {X : Type 0} (xs ys : List X) (x : X) → AreApart (xs ++ ys) → StandsIn xs x → StandsIn ys x → ⊥
across xs ys x all here there = across_at xs ys x here.0 all here.1 there

not_either : {X : Type 0} (xs ys : List X) (x : X) → (StandsIn xs x → ⊥) → (StandsIn ys x → ⊥) → StandsIn xs x ⊎ StandsIn ys x → ⊥
not_either xs ys x here there (inl s) = here s
not_either xs ys x here there (inr s) = there s

pub apart_append : {X : Type 0} (xs ys : List X) → AreApart xs → AreApart ys → ((x : X) → StandsIn xs x → StandsIn ys x → ⊥) → AreApart (xs ++ ys)
apart_append [] ys one other none = other
apart_append (x ∷ xs) ys one other none =
    (λ s. not_either xs ys x one.0 (none x (0, refl)) (one_of xs ys x s), apart_append xs ys one.1 other (λ y here there. none y (later x y xs here) there))

-- ---- what passes a test

-- it stands there, and passes
abbrev Passes : {X : Type 0} → (test : X → Bool) → List X → X → Type 0
Passes test xs x = StandsIn xs x × (test x ≡ true)

passes_if : {X : Type 0} (test : X → Bool) (t : Bool) (y x : X) (xs kept : List X) (k : ℕ) → test y ≡ t → ((j : ℕ) → slice_get kept j ≡ Some x → Passes test xs x) → slice_get (if t then y ∷ kept else kept) k ≡ Some x → Passes test (y ∷ xs) x
passes_if test true y x xs kept zero is rest at = ((0, at), ap test (sym (same_Some y x at)) ∙ is)
passes_if test true y x xs kept (suc k) is rest at = let r = rest k at in (later y x xs r.0, r.1)
passes_if test false y x xs kept k is rest at = let r = rest k at in (later y x xs r.0, r.1)

passes_at : {X : Type 0} (test : X → Bool) (xs : List X) (x : X) (k : ℕ) → slice_get (filter test xs) k ≡ Some x → Passes test xs x
passes_at test [] x k at = absurd (none-some x at)
passes_at test (y ∷ xs) x k at = passes_if test (test y) y x xs (filter test xs) k refl (λ j there. passes_at test xs x j there) at

pub passes : {X : Type 0} (test : X → Bool) (xs : List X) (x : X) → StandsIn (filter test xs) x → StandsIn xs x × (test x ≡ true)
passes test xs x s = passes_at test xs x s.0 s.1

apart_if : {X : Type 0} (t : Bool) (x : X) (kept : List X) → (StandsIn kept x → ⊥) → AreApart kept → AreApart (if t then x ∷ kept else kept)
apart_if true x kept none rest = (none, rest)
apart_if false x kept none rest = rest

pub apart_filter : {X : Type 0} (test : X → Bool) (xs : List X) → AreApart xs → AreApart (filter test xs)
apart_filter test [] all = tt
apart_filter test (x ∷ xs) all = apart_if (test x) x (filter test xs) (λ s. all.0 (passes test xs x s).0) (apart_filter test xs all.1)

pub any_stands : {X : Type 0} (test : X → Bool) (xs : List X) → list_any test xs ≡ true → (x : X) × (StandsIn xs x × (test x ≡ true))
any_stands test [] is = absurd (let f : ⊥ = cc in f)
any_stands {X} test (y ∷ xs) is = by (test y) refl is (any_stands test xs)
  where
    by : (t : Bool) → test y ≡ t → (t || list_any test xs) ≡ true → (list_any test xs ≡ true → (x : X) × (StandsIn xs x × (test x ≡ true))) → (x : X) × (StandsIn (y ∷ xs) x × (test x ≡ true))
    by true here any rest = (y, ((0, refl), here))
    by false other any rest = let r = rest any in (r.0, (later y r.0 xs r.1.0, r.1.1))

-- ---- what is made of each

-- it is made of this one, which stands there
pub record MadeOf {X Y : Type 0} (f : X → Y) (xs : List X) (y : Y) : Type 0 where
  pub from : X
  pub stands : StandsIn xs from
  pub is : f from ≡ y

made_later : {X Y : Type 0} (f : X → Y) (x : X) (xs : List X) (y : Y) → MadeOf f xs y → MadeOf f (x ∷ xs) y
made_later f x xs y m = record { from = m.from; stands = later x m.from xs m.stands; is = m.is }

made_at : {X Y : Type 0} (f : X → Y) (xs : List X) (y : Y) (k : ℕ) → slice_get (map f xs) k ≡ Some y → MadeOf f xs y
made_at f [] y k at = absurd (none-some y at)
made_at f (x ∷ xs) y zero at = record { from = x; stands = (0, refl); is = same_Some (f x) y at }
made_at f (x ∷ xs) y (suc k) at = made_later f x xs y (made_at f xs y k at)

pub made_of : {X Y : Type 0} (f : X → Y) (xs : List X) (y : Y) → StandsIn (map f xs) y → MadeOf f xs y
made_of f xs y s = made_at f xs y s.0 s.1

pub apart_map : {X Y : Type 0} (f : X → Y) → ((a b : X) → f a ≡ f b → a ≡ b) → (xs : List X) → AreApart xs → AreApart (map f xs)
apart_map f one [] all = tt
apart_map f one (x ∷ xs) all = (λ s. (let m = made_of f xs (f x) s in all.0 (subst (StandsIn xs) (one m.from x m.is) m.stands)), apart_map f one xs all.1)
