-- How many parts of a recipe count.
use Rattle.std.proofs.Common.{ℕ, zero, suc, ◌+◌, ◌≡◌, ◌==◌, ◌<◌, ◌≤◌, Bool, true, false, List, [], ◌∷◌, ◌++◌, length, refl, ap, arith, ◌∙◌}
use Rattle.std.specs.Prelude.{if◌then◌else◌}
use Rattle.std.specs.List.{range_with_len}
use Rattle.std.proofs.lemmas.Bool.Decides.{nat_tests}
use Rattle.std.proofs.lemmas.Bool.{eqb-true}
use Rattle.dft_cells.specs.declared.cell.Cell.{Cell}
use Rattle.dft_parts.specs.Parts.{Part}
use Rattle.dft_parts.specs.Recipes.{Start, Recipe, pure, ◌>>=◌, behind, each, collect}

-- ---- sums

-- the same number so many times
abbrev pub times : (count : ℕ) → (weight : ℕ) → ℕ
times zero weight = zero
times (suc count) weight = weight + times count weight

pub times_add : (a b weight : ℕ) → times (a + b) weight ≡ times a weight + times b weight
times_add zero b weight = let e : times (zero + b) weight ≡ zero + times b weight = ap (λ k. times k weight) (let s : zero + b ≡ b = omega arith in s) ∙ omega arith in e
times_add (suc a) b weight = let e : suc a + b ≡ suc (a + b) = omega arith in ap (λ k. times k weight) e ∙ omega (arith, times_add a b weight)

pub times_zero : (count : ℕ) → times count 0 ≡ 0
times_zero zero = refl
times_zero (suc count) = omega (arith, times_zero count)

pub times_one : (count : ℕ) → times count 1 ≡ count
times_one zero = refl
times_one (suc count) = omega (arith, times_one count)

pub times_two : (count : ℕ) → times count 2 ≡ count + count
times_two zero = refl
times_two (suc count) = omega (arith, times_two count)

abbrev pub sum_of : {X : Type 0} → (X → ℕ) → List X → ℕ
sum_of f [] = zero
sum_of f (x ∷ xs) = f x + sum_of f xs

pub sum_add : {X : Type 0} (f g : X → ℕ) (xs : List X) → sum_of (λ x. f x + g x) xs ≡ sum_of f xs + sum_of g xs
sum_add f g [] = refl
sum_add f g (x ∷ xs) = omega (arith, sum_add f g xs)

pub sum_zero : {X : Type 0} (xs : List X) → sum_of (λ (x : X). 0) xs ≡ 0
sum_zero [] = refl
sum_zero (x ∷ xs) = omega (arith, sum_zero xs)

pub sum_same : {X : Type 0} (weight : ℕ) (xs : List X) → sum_of (λ (x : X). weight) xs ≡ times (length xs) weight
sum_same weight [] = refl
sum_same weight (x ∷ xs) = ap (λ k. weight + k) (sum_same weight xs)

-- ---- what a recipe weighs

-- the weights of these parts
abbrev pub total : (Part → ℕ) → List Part → ℕ
total w [] = zero
total w (part ∷ parts) = w part + total w parts

pub total_append : (w : Part → ℕ) (xs ys : List Part) → total w (xs ++ ys) ≡ total w xs + total w ys
total_append w [] ys = omega arith
total_append w (x ∷ xs) ys = omega (arith, total_append w xs ys)

-- the parts of a recipe weigh so much over this library, wherever it begins
abbrev pub Weighs : {A : Type 0} → (Part → ℕ) → List Cell → Recipe A → (weight : ℕ) → Type 0
Weighs w library r weight = (at : Start) → at.library ≡ library → total w (r at).parts ≡ weight

pub weighs_as : {A : Type 0} (w : Part → ℕ) (library : List Cell) (r : Recipe A) (a b : ℕ) → a ≡ b → Weighs w library r a → Weighs w library r b
weighs_as w library r a b e h at is = h at is ∙ e

pub weighs_pure : {A : Type 0} (w : Part → ℕ) (library : List Cell) (a : A) → Weighs w library (pure a) 0
weighs_pure w library a at is = refl

pub weighs_bind : {A B : Type 0} (w : Part → ℕ) (library : List Cell) (r : Recipe A) (f : A → Recipe B) (a b : ℕ) → Weighs w library r a → ((x : A) → Weighs w library (f x) b) → Weighs w library (r >>= f) (a + b)
weighs_bind w library r f a b h k at is =
    let later = (f (r at).value (behind at (r at).parts)).parts in
    total_append w (r at).parts later ∙ omega (arith, h at is, k (r at).value (behind at (r at).parts) is)

pub weighs_each : {X : Type 0} (w : Part → ℕ) (library : List Cell) (f : X → Recipe (Unit {0})) (g : X → ℕ) (xs : List X) → ((x : X) → Weighs w library (f x) (g x)) → Weighs w library (each f xs) (sum_of g xs)
unfolding each
weighs_each w library f g [] h at is = refl
weighs_each w library f g (x ∷ xs) h at is =
    let later = (each f xs (behind at (f x at).parts)).parts in
    total_append w (f x at).parts later ∙ omega (arith, h x at is, weighs_each w library f g xs h (behind at (f x at).parts) is)

pub weighs_collect : {X A : Type 0} (w : Part → ℕ) (library : List Cell) (f : X → Recipe A) (weight : ℕ) (xs : List X) → ((x : X) → Weighs w library (f x) weight) → Weighs w library (collect f xs) (times (length xs) weight)
unfolding collect
weighs_collect w library f weight [] h at is = refl
weighs_collect w library f weight (x ∷ xs) h at is =
    let first = (f x at).parts in
    let later = (collect f xs (behind at first)).parts in
    total_append w first (later ++ [])
    ∙ omega (arith, h x at is, total_append w later [], weighs_collect w library f weight xs h (behind at first) is)

-- where each weighs nothing
pub none_each : {X : Type 0} (w : Part → ℕ) (library : List Cell) (f : X → Recipe (Unit {0})) (xs : List X) → ((x : X) → Weighs w library (f x) 0) → Weighs w library (each f xs) 0
none_each w library f xs h = weighs_as w library (each f xs) (sum_of (λ x. 0) xs) 0 (sum_zero xs) (weighs_each w library f (λ x. 0) xs h)

pub none_collect : {X A : Type 0} (w : Part → ℕ) (library : List Cell) (f : X → Recipe A) (xs : List X) → ((x : X) → Weighs w library (f x) 0) → Weighs w library (collect f xs) 0
none_collect w library f xs h = weighs_as w library (collect f xs) (times (length xs) 0) 0 (times_zero (length xs)) (weighs_collect w library f 0 xs h)

-- ---- one of many

-- one number of a range counts
one_by : (weight rest : ℕ) (b : Bool) → (b ≡ false → rest ≡ weight) → (b ≡ true → rest ≡ 0) → (if b then weight else 0) + rest ≡ weight
one_by weight rest true more none = omega (arith, none refl)
one_by weight rest false more none = omega (arith, more refl)

past : (k from weight rest : ℕ) (b : Bool) → (k == from) ≡ b → k < from → rest ≡ 0 → (if b then weight else 0) + rest ≡ 0
past k from weight rest true is less none = absurd (apart k from is less)
  where
    apart : (m j : ℕ) → (m == j) ≡ true → m < j → ⊥
    apart m j e h = grind (arith, nat_tests)
past k from weight rest false is less none = omega (arith, none)

none_past : (k from count weight : ℕ) → k < from → sum_of (λ c. if k == c then weight else 0) (range_with_len from count) ≡ 0
none_past k from zero weight less = refl
none_past k from (suc count) weight less = past k from weight _ (k == from) refl less (none_past k (from + 1) count weight (omega (arith, less)))

other_number : (k from count : ℕ) → (k == from) ≡ false → from ≤ k → from + 1 ≤ k
other_number = grind (arith, nat_tests)

pub one_in_range : (k from count weight : ℕ) → from ≤ k → k < from + count → sum_of (λ c. if k == c then weight else 0) (range_with_len from count) ≡ weight
one_in_range k from zero weight low high = absurd (omega (arith, low, high))
one_in_range k from (suc count) weight low high =
    one_by weight _ (k == from)
    (λ is. one_in_range k (from + 1) count weight (other_number k from count is low) (omega (arith, high)))
    (λ is. none_past k (from + 1) count weight (omega (arith, eqb-true k from is)))
