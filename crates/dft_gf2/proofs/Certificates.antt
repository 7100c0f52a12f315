-- Certificates: their ids in order, and that they sum to 0 = 1.
use Rattle.std.proofs.Common.{ℕ, zero, suc, Bool, true, false, List, [], ◌∷◌, ◌++◌, ◌≡◌, ◌==◌, ◌+◌, ◌<◌, length, refl, sym, ap, arith, rules, ◌∙◌, Some, None}
use Rattle.std.specs.Prelude.{◌&&◌, not, if◌then◌else◌, IfSome}
use Rattle.std.proofs.lemmas.Bool.{eq-eqb, ne_eqb}
use Rattle.std.proofs.lemmas.List.{length_push, get_or_push, append-nil}
use Rattle.dft_base.specs.Solutions.{xor, bit_at, Equation, equation_at, odd_at, odd_bits, IsSumOf, Certifies, Contradicts, ids_to}
use Rattle.dft_gf2.specs.Rows.{IsZero, restored}
use Rattle.dft_gf2.specs.declared.row.Row.{Row}
use Rattle.dft_gf2.proofs.Sums.{xor_self}
use Rattle.dft_gf2.proofs.Restorations.{odd, odd_push, odd_same, push_at, restored_means, restored_id}
use Rattle.dft_gf2.proofs.Outcomes.{zero_sums, zero_refuses}

-- one place more, which is named
pub ids_taken : (p : ℕ → Bool) (es : List Equation) (m : ℕ) (ids : List ℕ) (id : ℕ) → ids ≡ ids_to m p es → p m ≡ true → id ≡ (equation_at es m).id → ids ++ id ∷ [] ≡ ids_to (m + 1) p es
ids_taken p es m ids id so_far named is =
    let next : m + 1 ≡ suc m = omega arith in
    (λ t. so_far t ++ (if sym named t then is t ∷ [] else [])) ∙ ap (λ (k : ℕ). ids_to k p es) (sym next)

-- one place more, which is not
pub ids_passed : (p : ℕ → Bool) (es : List Equation) (m : ℕ) (ids : List ℕ) → ids ≡ ids_to m p es → p m ≡ false → ids ≡ ids_to (m + 1) p es
ids_passed p es m ids so_far free =
    let next : m + 1 ≡ suc m = omega arith in
    so_far ∙ sym (append-nil (ids_to m p es)) ∙ (λ t. ids_to m p es ++ (if sym free t then (equation_at es m).id ∷ [] else [])) ∙ ap (λ (k : ℕ). ids_to k p es) (sym next)

pub ids_same : (m : ℕ) (p q : ℕ → Bool) (es fs : List Equation) → ((j : ℕ) → j < m → p j ≡ q j) → ((j : ℕ) → j < m → equation_at es j ≡ equation_at fs j) → ids_to m p es ≡ ids_to m q fs
ids_same zero p q es fs picks same = refl
ids_same (suc m) p q es fs picks same =
    let ih : ids_to m p es ≡ ids_to m q fs = ids_same m p q es fs (λ j less. picks j (omega arith)) (λ j less. same j (omega arith)) in
    λ t. ih t ++ (if picks m (omega arith) t then (same m (omega arith) t).id ∷ [] else [])

-- the picks, and the place after them
and_last : List Equation → (ℕ → Bool) → ℕ → Bool
and_last es p j = if j == length es then true else p j

picks_before : (es : List Equation) (p : ℕ → Bool) (j : ℕ) → j < length es → and_last es p j ≡ p j
unfolding and_last
picks_before es p j less = ap (λ (b : Bool). if b then true else p j) (ne_eqb j (length es) (λ same. omega arith))

picks_last : (es : List Equation) (p : ℕ → Bool) → and_last es p (length es) ≡ true
unfolding and_last
picks_last es p = ap (λ (b : Bool). if b then true else p (length es)) (eq-eqb (length es) (length es) refl)

odd_last : (es : List Equation) (e : Equation) (p : ℕ → Bool) (f : Equation → Bool) → odd (and_last es p) f (es ++ e ∷ []) ≡ xor (f e) (odd p f es)
odd_last es e p f = odd_push (and_last es p) f es e ∙ (λ t. xor (picks_last es p t && f e) (odd_same (and_last es p) p f es (picks_before es p) t))

ids_last : (es : List Equation) (e : Equation) (p : ℕ → Bool) → ids_to (length es) p es ++ e.id ∷ [] ≡ ids_to (length (es ++ e ∷ [])) (and_last es p) (es ++ e ∷ [])
ids_last es e p =
    let before : ids_to (length es) p es ≡ ids_to (length es) (and_last es p) (es ++ e ∷ []) =
    ids_same (length es) p (and_last es p) es (es ++ e ∷ []) (λ j less. sym (picks_before es p j less)) (λ j less. sym (push_at es e j less)) in
    let last : equation_at (es ++ e ∷ []) (length es) ≡ e = get_or_push es e _ (length es) refl in
    ids_taken (and_last es p) (es ++ e ∷ []) (length es) (ids_to (length es) p es) e.id before (picks_last es p) (sym (ap (λ (d : Equation). d.id) last))
    ∙ ap (λ (k : ℕ). ids_to k (and_last es p) (es ++ e ∷ [])) (sym (length_push es e))

xor_not : (b : Bool) → xor (not b) b ≡ true
xor_not = grind arith

-- a set that is a sum of kept sets, with the other bit than theirs
pub certifies_last : (n : ℕ) (kept : List Equation) (e : Equation) (p : ℕ → Bool) → IsSumOf n p kept e.row → e.bit ≡ not (odd_bits p kept) → Certifies n (kept ++ e ∷ []) (ids_to (length kept) p kept ++ e.id ∷ [])
certifies_last n kept e p sums other = (
  and_last kept p,
  (
    record {
      even = λ c less. odd_last kept e p (λ (d : Equation). bit_at d.row c) ∙ ap (λ (b : Bool). xor b (odd_at p kept c)) (sums c less) ∙ xor_self (odd_at p kept c);
      odd = odd_last kept e p (λ (d : Equation). d.bit) ∙ ap (λ (b : Bool). xor b (odd_bits p kept)) other ∙ xor_not (odd_bits p kept);
    },
    ids_last kept e p,
  ),
)

-- what is left of a refused equation gives its certificate
pub contradicts : (n : ℕ) (kept : List Equation) (trial : Row) (ids : List ℕ) → IsZero trial → trial.bit ≡ true → ids ≡ ids_to (length kept) (bit_at trial.sums) kept ++ trial.id ∷ [] →
    Contradicts n kept (restored n kept trial) ids
contradicts n kept trial ids clear one named = record {
  picks = bit_at trial.sums;
  sums = zero_sums n kept trial _ _ clear (restored_means n kept trial);
  none = zero_refuses n kept trial _ _ clear one (restored_means n kept trial);
  named = named ∙ ap (λ (m : ℕ). ids_to (length kept) (bit_at trial.sums) kept ++ m ∷ []) (sym (restored_id n kept trial));
}

pub certifies : (n : ℕ) (kept : List Equation) (trial : Row) (ids : List ℕ) → IsZero trial → trial.bit ≡ true → ids ≡ ids_to (length kept) (bit_at trial.sums) kept ++ trial.id ∷ [] →
    Certifies n (kept ++ restored n kept trial ∷ []) ids
certifies n kept trial ids clear one named =
    let all : Certifies n (kept ++ restored n kept trial ∷ []) (ids_to (length kept) (bit_at trial.sums) kept ++ (restored n kept trial).id ∷ []) =
    certifies_last n kept (restored n kept trial) (bit_at trial.sums) (zero_sums n kept trial _ _ clear (restored_means n kept trial))
    ((restored_means n kept trial).1 ∙ ap (λ (b : Bool). xor b (odd_bits (bit_at trial.sums) kept)) one) in
    (all.0, (all.1.0, named ∙ ap (λ (m : ℕ). ids_to (length kept) (bit_at trial.sums) kept ++ m ∷ []) (sym (restored_id n kept trial)) ∙ all.1.1))

-- what holds of the refused equation, where there is one
pub if_refused : (P : Equation → Type 0) (refused : Bool) (e : Equation) → (refused ≡ true → P e) → IfSome (if refused then Some e else None) P
if_refused P true e holds = holds refl
if_refused P false e holds = search rules
