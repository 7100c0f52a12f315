-- The stated certificate is one: kept sets are independent, so a set is the sum of kept sets in one way.
use Rattle.std.proofs.Common.{ℕ, zero, suc, Bool, true, false, List, [], ◌∷◌, ◌++◌, ◌≡◌, ◌<◌, ◌≤◌, length, take, refl, sym, ap, subst, arith, ◌∙◌, ◌⊎◌, inl, inr}
use Rattle.std.specs.Prelude.{◌&&◌}
use Rattle.std.proofs.lemmas.Bool.{cases_lt}
use Rattle.std.proofs.lemmas.List.{length_push, get_or_push, length-take-le, get_or-take, take-append-le, take_at}
use Rattle.dft_base.specs.Solutions.{xor, sum_to, bit_at, Equation, equation_at, odd_at, IsSumOf, IsSum, IsSolvable, Contradicts, StatesFrom}
use Rattle.dft_base.proofs.SumLemmas.{sum_same}
use Rattle.dft_base.proofs.BitLemmas.{xor_same}
use Rattle.dft_gf2.specs.Laws.{StatedIsOne}
use Rattle.dft_gf2.proofs.Sums.{xor_self, sum_add_left}
use Rattle.dft_gf2.proofs.Restorations.{push_at, solves_front, solves_last}
use Rattle.dft_gf2.proofs.Certificates.{ids_same}

-- no set is a sum of those before it
abbrev IsIndependent : ℕ → List Equation → Type 0
IsIndependent n kept = (m : ℕ) → m < length kept → IsSum n (take m kept) (equation_at kept m).row → ⊥

-- the sum of the picked ones among the first m sets
abbrev odd_to : ℕ → (ℕ → Bool) → List Equation → ℕ → Bool
odd_to m p es c = sum_to m (λ j. p j && bit_at (equation_at es j).row c)

odd_take : (m : ℕ) (p : ℕ → Bool) (es : List Equation) (c : ℕ) → m ≤ length es → odd_at p (take m es) c ≡ odd_to m p es c
odd_take m p es c fits =
    ap (λ (k : ℕ). sum_to k (λ j. p j && bit_at (equation_at (take m es) j).row c)) (length-take-le m es fits)
    ∙ sum_same m (λ j. p j && bit_at (equation_at (take m es) j).row c) (λ j. p j && bit_at (equation_at es j).row c)
    (λ j less. ap (λ (e : Equation). p j && bit_at e.row c) (get_or-take m es j _ less))

xor_none : (a b : Bool) → xor (true && a) b ≡ false → a ≡ b
xor_none = grind arith

xor_rest : (a b : Bool) → xor (false && a) b ≡ false → b ≡ false
xor_rest = grind arith

pick_case : (n : ℕ) (kept : List Equation) (m : ℕ) (p : ℕ → Bool) (b : Bool) → p m ≡ b → IsIndependent n kept → m < length kept → ((c : ℕ) → c < n → odd_to (suc m) p kept c ≡ false) →
    (p m ≡ false) × ((c : ℕ) → c < n → odd_to m p kept c ≡ false)
pick_case n kept m p true is independent less zeros =
    absurd (independent m less (
      p,
      λ c under.
          xor_none (bit_at (equation_at kept m).row c) (odd_to m p kept c) (ap (λ (b : Bool). xor (b && bit_at (equation_at kept m).row c) (odd_to m p kept c)) (sym is) ∙ zeros c under)
          ∙ sym (odd_take m p kept c (omega arith)),
    ))
pick_case n kept m p false is independent less zeros =
    (is, λ c under. xor_rest (bit_at (equation_at kept m).row c) (odd_to m p kept c) (ap (λ (b : Bool). xor (b && bit_at (equation_at kept m).row c) (odd_to m p kept c)) (sym is) ∙ zeros c under))

pick_more : (p : ℕ → Bool) (m j : ℕ) → (j < m) ⊎ (m ≤ j) → j < suc m → p m ≡ false → (j < m → p j ≡ false) → p j ≡ false
pick_more p m j (inl under) less here before = before under
pick_more p m j (inr from) less here before = let same : j ≡ m = omega arith in ap p same ∙ here

-- where picked independent sets sum to nothing, none is picked
zero_picks : (n : ℕ) (kept : List Equation) (p : ℕ → Bool) → IsIndependent n kept → (m : ℕ) → m ≤ length kept → ((c : ℕ) → c < n → odd_to m p kept c ≡ false) → (j : ℕ) → j < m → p j ≡ false
zero_picks n kept p independent zero fits zeros j less = absurd (omega arith)
zero_picks n kept p independent (suc m) fits zeros j less =
    let found = pick_case n kept m p (p m) refl independent (omega arith) zeros in
    pick_more p m j (cases_lt j m) less found.0 (zero_picks n kept p independent m (omega arith) found.1 j)

picks_one : (n : ℕ) (kept : List Equation) (row : List Bool) (p q : ℕ → Bool) → IsIndependent n kept → IsSumOf n p kept row → IsSumOf n q kept row → (j : ℕ) → j < length kept → p j ≡ q j
picks_one n kept row p q independent one other j less =
    xor_same (p j) (q j)
    (zero_picks n kept (λ i. xor (p i) (q i)) independent (length kept) (omega arith)
    (λ c under. sum_add_left (length kept) p q (λ i. bit_at (equation_at kept i).row c) ∙ (λ t. xor (sym (one c under) t) (sym (other c under) t)) ∙ xor_self (bit_at row c)) j less)

contradicts_one : (n : ℕ) (kept : List Equation) (e : Equation) (ids others : List ℕ) → IsIndependent n kept → Contradicts n kept e ids → Contradicts n kept e others → ids ≡ others
contradicts_one n kept e ids others independent one other =
    one.named
    ∙ ap (λ (named : List ℕ). named ++ e.id ∷ [])
    (ids_same (length kept) one.picks other.picks kept kept (picks_one n kept e.row one.picks other.picks independent one.sums other.sums) (λ j less. refl))
    ∙ sym other.named

independent_case : (n : ℕ) (kept : List Equation) (e : Equation) (m : ℕ) → IsIndependent n kept → (IsSum n kept e.row → ⊥) → (m < length kept) ⊎ (length kept ≤ m) → m < length (kept ++ e ∷ []) →
    IsSum n (take m (kept ++ e ∷ [])) (equation_at (kept ++ e ∷ []) m).row → ⊥
independent_case n kept e m independent free (inl under) less =
    let P : List Equation → Equation → Type 0 = λ es d. IsSum n es d.row in
    let front : take m (kept ++ e ∷ []) ≡ take m kept = take-append-le m kept (e ∷ []) (omega arith) in
    let same : equation_at (kept ++ e ∷ []) m ≡ equation_at kept m = push_at kept e m under in
    λ sum. independent m under (subst (λ (d : Equation). IsSum n (take m kept) d.row) same (subst (λ (es : List Equation). IsSum n es (equation_at (kept ++ e ∷ []) m).row) front sum))
independent_case n kept e m independent free (inr from) less =
    let size = length_push kept e in
    let last : length kept ≡ m = omega arith in
    let front : take m (kept ++ e ∷ []) ≡ kept = take_at kept (e ∷ []) m last in
    let same : equation_at (kept ++ e ∷ []) m ≡ e = get_or_push kept e _ m last in
    λ sum. free (subst (λ (d : Equation). IsSum n kept d.row) same (subst (λ (es : List Equation). IsSum n es (equation_at (kept ++ e ∷ []) m).row) front sum))

independent_more : (n : ℕ) (kept : List Equation) (e : Equation) → IsIndependent n kept → (IsSum n kept e.row → ⊥) → IsIndependent n (kept ++ e ∷ [])
independent_more n kept e independent free m less = independent_case n kept e m independent free (cases_lt m (length kept)) less

-- what is solvable with the equation does not contradict it
solvable_with : (n : ℕ) (kept : List Equation) (e : Equation) (ids : List ℕ) → IsSolvable n (kept ++ e ∷ []) → Contradicts n kept e ids → ⊥
solvable_with n kept e ids solved here = here.none solved.0 (solves_front n solved.0 kept e solved.1) (solves_last n solved.0 kept e solved.1)

states_one : (n : ℕ) (kept es : List Equation) (ids others : List ℕ) → IsIndependent n kept → StatesFrom n kept es ids → StatesFrom n kept es others → ids ≡ others
states_one n kept [] ids others independent one other = absurd one
states_one n kept (e ∷ es) ids others independent one other = elim one [
  | inl keep ↦ elim other [
    | inl also ↦ states_one n (kept ++ e ∷ []) es ids others (independent_more n kept e independent keep.0) keep.1 also.1
    | inr not_kept ↦ elim not_kept [ inl implied ↦ absurd (keep.0 implied.0) | inr here ↦ absurd (keep.0 (here.picks, here.sums)) ]
  ]
  | inr not_kept ↦ elim not_kept [
    | inl implied ↦ elim other [
      | inl keep ↦ absurd (keep.0 implied.0)
      | inr also ↦ elim also [ inl twice ↦ states_one n kept es ids others independent implied.2 twice.2 | inr here ↦ absurd (solvable_with n kept e others implied.1 here) ]
    ]
    | inr here ↦ elim other [
      | inl keep ↦ absurd (keep.0 (here.picks, here.sums))
      | inr also ↦ elim also [ inl implied ↦ absurd (solvable_with n kept e ids implied.1 here) | inr twice ↦ contradicts_one n kept e ids others independent here twice ]
    ]
  ]
]

pub stated_one : StatedIsOne
stated_one n es ids others one other = states_one n [] es ids others (λ m less. absurd (omega arith)) one other
