-- Whether some number of a range passes a test, or all do, one after the other.
use Rattle.std.proofs.Common.{◌≡◌, ℕ, ◌+◌, ◌-◌, ◌<◌, ◌≤◌, Bool, true, false, ◌&&◌, ◌||◌, sym, ◌∙◌, ap, arith}
use Rattle.std.specs.List.{list_all, list_any, range_with_len}
use Rattle.dft_base.proofs.NumberLemmas.{one_left}

pub any_on : (p : ℕ → Bool) (k n : ℕ) (whole : Bool) → k < n → p k ≡ false → list_any p (range_with_len k (n - k)) ≡ whole → list_any p (range_with_len (k + 1) (n - (k + 1))) ≡ whole
any_on p k n whole less is rest = sym (ap (λ (m : ℕ). list_any p (range_with_len k m)) (one_left k n less) ∙ ap (λ (b : Bool). b || list_any p (range_with_len (k + 1) (n - (k + 1)))) is) ∙ rest

pub any_here : (p : ℕ → Bool) (k n : ℕ) (whole : Bool) → k < n → p k ≡ true → list_any p (range_with_len k (n - k)) ≡ whole → true ≡ whole
any_here p k n whole less is rest = sym (ap (λ (m : ℕ). list_any p (range_with_len k m)) (one_left k n less) ∙ ap (λ (b : Bool). b || list_any p (range_with_len (k + 1) (n - (k + 1)))) is) ∙ rest

pub any_over : (p : ℕ → Bool) (k n : ℕ) (whole : Bool) → n ≤ k → list_any p (range_with_len k (n - k)) ≡ whole → false ≡ whole
any_over p k n whole past rest = let none : 0 ≡ n - k = omega arith in ap (λ (m : ℕ). list_any p (range_with_len k m)) none ∙ rest

pub all_on : (p : ℕ → Bool) (k n : ℕ) (whole : Bool) → k < n → p k ≡ true → list_all p (range_with_len k (n - k)) ≡ whole → list_all p (range_with_len (k + 1) (n - (k + 1))) ≡ whole
all_on p k n whole less is rest = sym (ap (λ (m : ℕ). list_all p (range_with_len k m)) (one_left k n less) ∙ ap (λ (b : Bool). b && list_all p (range_with_len (k + 1) (n - (k + 1)))) is) ∙ rest

pub all_here : (p : ℕ → Bool) (k n : ℕ) (whole : Bool) → k < n → p k ≡ false → list_all p (range_with_len k (n - k)) ≡ whole → false ≡ whole
all_here p k n whole less is rest = sym (ap (λ (m : ℕ). list_all p (range_with_len k m)) (one_left k n less) ∙ ap (λ (b : Bool). b && list_all p (range_with_len (k + 1) (n - (k + 1)))) is) ∙ rest

pub all_over : (p : ℕ → Bool) (k n : ℕ) (whole : Bool) → n ≤ k → list_all p (range_with_len k (n - k)) ≡ whole → true ≡ whole
all_over p k n whole past rest = let none : 0 ≡ n - k = omega arith in ap (λ (m : ℕ). list_all p (range_with_len k m)) none ∙ rest
