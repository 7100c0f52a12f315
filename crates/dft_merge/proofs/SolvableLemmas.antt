-- Whether equations have a solution can be decided: only the bits of the columns count.
use Rattle.std.proofs.Common.{ℕ, zero, suc, Bool, true, false, cond, List, [], ◌∷◌, ◌≡◌, ◌<◌, ◌&&◌, ◌==◌, refl, sym, ap, arith, ◌∙◌, ◌⊎◌, inl, inr}
use Rattle.std.specs.Prelude.{not}
use Rattle.std.proofs.lemmas.Bool.{and_from, and_parts, cases_Bool, cases_eq, eq-eqb, ne_eqb, false≢true}
use Rattle.std.specs.List.{AllByRecursion}
use Rattle.dft_base.specs.Solutions.{xor, bit_at, sum_over, Equation, Holds, IsSolvable}
use Rattle.dft_base.proofs.SumLemmas.{sum_same}
use Rattle.dft_merge.proofs.EquationLemmas.{each_solves, solves_each}

-- ---- tests of tables

-- the test looks at the first n bits alone
abbrev LooksAt : ℕ → ((ℕ → Bool) → Bool) → Type 0
LooksAt n p = (x y : ℕ → Bool) → ((c : ℕ) → c < n → x c ≡ y c) → p x ≡ p y

-- the table with this bit at a place
abbrev with_bit : ℕ → Bool → (ℕ → Bool) → ℕ → Bool
with_bit m b x c = cond (c == m) b (x c)

with_agrees : (m : ℕ) (b : Bool) (x y : ℕ → Bool) → ((c : ℕ) → c < m → x c ≡ y c) → (c : ℕ) → c < suc m → with_bit m b x c ≡ with_bit m b y c
with_agrees m b x y agree c less = elim (cases_eq c m) [
  | inl same ↦ (let t : (c == m) ≡ true = eq-eqb c m same in rw t refl)
  | inr other ↦ (let f : (c == m) ≡ false = ne_eqb c m other in rw f (agree c (omega arith)))
]

with_own : (m : ℕ) (x : ℕ → Bool) (c : ℕ) → x c ≡ with_bit m (x m) x c
with_own m x c = elim (cases_eq c m) [
  | inl same ↦ (let t : (c == m) ≡ true = eq-eqb c m same in rw t (ap x same))
  | inr other ↦ (let f : (c == m) ≡ false = ne_eqb c m other in rw f refl)
]

looks_less : (n : ℕ) (p : (ℕ → Bool) → Bool) (b : Bool) → LooksAt (suc n) p → LooksAt n (λ x. p (with_bit n b x))
looks_less n p b looks x y agree = looks (with_bit n b x) (with_bit n b y) (with_agrees n b x y agree)

-- a test passes some table, or none
abbrev Passes : ((ℕ → Bool) → Bool) → Type 0
Passes p = ((x : ℕ → Bool) × (p x ≡ true)) ⊎ ((x : ℕ → Bool) → p x ≡ false)

neither : (n : ℕ) (p : (ℕ → Bool) → Bool) → ((x : ℕ → Bool) → p (with_bit n true x) ≡ false) → ((x : ℕ → Bool) → p (with_bit n false x) ≡ false) → (x : ℕ → Bool) (b : Bool) → p (with_bit n b x) ≡ false
neither n p one other x true = one x
neither n p one other x false = other x

passes_more : (n : ℕ) (p : (ℕ → Bool) → Bool) → LooksAt (suc n) p → Passes (λ x. p (with_bit n true x)) → Passes (λ x. p (with_bit n false x)) → Passes p
passes_more n p looks (inl found) other = inl (with_bit n true found.0, found.1)
passes_more n p looks (inr none) (inl found) = inl (with_bit n false found.0, found.1)
passes_more n p looks (inr none) (inr never) = inr (λ x. looks x (with_bit n (x n) x) (λ c less. with_own n x c) ∙ neither n p none never x (x n))

passes : (n : ℕ) (p : (ℕ → Bool) → Bool) → LooksAt n p → Passes p
passes zero p looks = elim (cases_Bool (p (λ c. false))) [ inl passed ↦ inl ((λ c. false), passed) | inr failed ↦ inr (λ x. looks x (λ c. false) (λ c less. absurd (omega arith)) ∙ failed) ]
passes (suc n) p looks = passes_more n p looks (passes n (λ x. p (with_bit n true x)) (looks_less n p true looks)) (passes n (λ x. p (with_bit n false x)) (looks_less n p false looks))

-- ---- equations

abbrev is_same : Bool → Bool → Bool
is_same a b = not (xor a b)

same_bits : (a b : Bool) → is_same a b ≡ true → a ≡ b
same_bits = grind arith

bits_same : (a b : Bool) → a ≡ b → is_same a b ≡ true
bits_same = grind arith

-- whether a table gives each equation its bit
abbrev all_hold : ℕ → (ℕ → Bool) → List Equation → Bool
all_hold n x [] = true
all_hold n x (e ∷ es) = is_same (sum_over n e.row x) e.bit && all_hold n x es

held : (n : ℕ) (x : ℕ → Bool) (es : List Equation) → all_hold n x es ≡ true → AllByRecursion (Holds n x) es
held n x [] told = tt
held n x (e ∷ es) told = let parts = and_parts (is_same (sum_over n e.row x) e.bit) (all_hold n x es) told in (same_bits (sum_over n e.row x) e.bit parts.0, held n x es parts.1)

holding : (n : ℕ) (x : ℕ → Bool) (es : List Equation) → AllByRecursion (Holds n x) es → all_hold n x es ≡ true
holding n x [] each = refl
holding n x (e ∷ es) each = and_from (is_same (sum_over n e.row x) e.bit) (all_hold n x es) (bits_same (sum_over n e.row x) e.bit each.0) (holding n x es each.1)

hold_looks : (n : ℕ) (es : List Equation) → LooksAt n (λ x. all_hold n x es)
hold_looks n [] x y agree = refl
hold_looks n (e ∷ es) x y agree =
    let sums : sum_over n e.row x ≡ sum_over n e.row y = sum_same n (λ c. bit_at e.row c && x c) (λ c. bit_at e.row c && y c) (λ c less. ap (λ (b : Bool). bit_at e.row c && b) (agree c less)) in
    λ i. is_same (sums i) e.bit && hold_looks n es x y agree i

pub solvable_or_not : (n : ℕ) (es : List Equation) → IsSolvable n es ⊎ (IsSolvable n es → ⊥)
solvable_or_not n es = elim (passes n (λ x. all_hold n x es) (hold_looks n es)) [
  | inl found ↦ inl (found.0, each_solves n found.0 es (held n found.0 es found.1))
  | inr never ↦ inr (λ solved. false≢true (sym (never solved.0) ∙ holding n solved.0 es (solves_each n solved.0 es solved.1)))
]
