-- The first number that fails a test.
use Rattle.std.proofs.Common.{ℕ, zero, suc, ◌≡◌, ◌+◌, ◌-◌, ◌<◌, ◌≤◌, Bool, true, ◌||◌, List, length, drop, Option, Some, if◌then◌else◌, refl, ap, ◌∙◌, arith}
use Rattle.std.proofs.Math.ListN.{drop_of_length-le}
use Rattle.dft_base.proofs.BitLemmas.{or_false}
use Rattle.dft_config_text.specs.Checks.{first_not, is_reached}

pub first_not_more : (test : ℕ → Bool) (n total : ℕ) → n < total → test n ≡ true → first_not test n (total - n) ≡ first_not test (n + 1) (total - (n + 1))
first_not_more test n total less e =
    let one : total - n ≡ suc (total - (n + 1)) = omega arith in
    ap (first_not test n) one ∙ ap (λ (b : Bool). if b then first_not test (n + 1) (total - (n + 1)) else Some n) e

pub first_not_same : (p q : ℕ → Bool) (n more : ℕ) → ((k : ℕ) → k < n + more → p k ≡ q k) → first_not p n more ≡ first_not q n more
first_not_same p q n zero same = refl
first_not_same p q n (suc more) same =
    ap (λ (b : Bool). if b then first_not p (n + 1) more else Some n) (same n (omega arith))
    ∙ ap (λ (r : Option ℕ). if q n then r else Some n) (first_not_same p q (n + 1) more (λ k less. same k (omega arith)))

-- no group is left past the last
pub reached_past : (groups : List (List ℕ)) (i k : ℕ) (b : Bool) → length groups ≤ i → (b || is_reached (drop i groups) k) ≡ b
reached_past groups i k b past = ap (λ (l : List (List ℕ)). b || is_reached l k) (drop_of_length-le groups past) ∙ or_false b
