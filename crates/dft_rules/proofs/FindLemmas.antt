-- The first of some names, pins or numbers that passes a test, in loops over them.
use Rattle.std.proofs.Common.{◌≡◌, ℕ, zero, suc, ◌+◌, ◌-◌, ◌<◌, ◌≤◌, Bool, true, false, cond, List, length, get_or, drop, find, Option, None, Some, refl, ◌∙◌, ap, arith}
use Rattle.std.specs.List.{range_with_len}
use Rattle.std.proofs.lemmas.List.{at_drop_more}
use Rattle.dft_base.proofs.NumberLemmas.{one_left}

-- the next item passes, or it does not, or there is none
pub find_here : {X : Type 0} (p : X → Bool) (xs : List X) (k : ℕ) (d : X) → k < length xs → p (get_or xs k d) ≡ true → find p (drop k xs) ≡ Some (get_or xs k d)
find_here p xs k d less is = at_drop_more (find p) xs k d less ∙ ap (λ (b : Bool). cond b (Some (get_or xs k d)) (find p (drop (k + 1) xs))) is

pub find_on : {X : Type 0} (p : X → Bool) (xs : List X) (k : ℕ) (d : X) → k < length xs → p (get_or xs k d) ≡ false → find p (drop k xs) ≡ find p (drop (k + 1) xs)
find_on p xs k d less is = at_drop_more (find p) xs k d less ∙ ap (λ (b : Bool). cond b (Some (get_or xs k d)) (find p (drop (k + 1) xs))) is

pub range_here : (p : ℕ → Bool) (k total : ℕ) → k < total → p k ≡ true → find p (range_with_len k (total - k)) ≡ Some k
range_here p k total less is = ap (λ (m : ℕ). find p (range_with_len k m)) (one_left k total less) ∙ ap (λ (b : Bool). cond b (Some k) (find p (range_with_len (k + 1) (total - (k + 1))))) is

pub range_on : (p : ℕ → Bool) (k total : ℕ) → k < total → p k ≡ false → find p (range_with_len k (total - k)) ≡ find p (range_with_len (k + 1) (total - (k + 1)))
range_on p k total less is = ap (λ (m : ℕ). find p (range_with_len k m)) (one_left k total less) ∙ ap (λ (b : Bool). cond b (Some k) (find p (range_with_len (k + 1) (total - (k + 1))))) is

pub range_over : (p : ℕ → Bool) (k total : ℕ) → total ≤ k → find p (range_with_len k (total - k)) ≡ None
range_over p k total past = let none : total - k ≡ 0 = omega arith in ap (λ (m : ℕ). find p (range_with_len k m)) none

-- tests that agree find the same
pub find_same : (p q : ℕ → Bool) (k count : ℕ) → ((i : ℕ) → i < k + count → p i ≡ q i) → find p (range_with_len k count) ≡ find q (range_with_len k count)
find_same p q k zero same = refl
find_same p q k (suc count) same =
    ap (λ (b : Bool). cond b (Some k) (find p (range_with_len (k + 1) count))) (same k (omega arith))
    ∙ ap (λ (r : Option ℕ). cond (q k) (Some k) r) (find_same p q (k + 1) count (λ i less. same i (omega arith)))
