-- Sums of bits over GF(2).
use Rattle.std.proofs.Common.{ℕ, zero, suc, Bool, true, false, ◌≡◌, ◌≢◌, ◌<◌, refl, ap, arith, ◌∙◌, ◌⊎◌, inl, inr}
use Rattle.std.proofs.lemmas.Bool.{cases_lt}
use Rattle.std.specs.Prelude.{◌&&◌}
use Rattle.dft_base.specs.Solutions.{xor, sum_to}

pub xor_false : (a : Bool) → xor a false ≡ a
xor_false true = refl
xor_false false = refl

pub and_false : (a : Bool) → a && false ≡ false
and_false true = refl
and_false false = refl

pub xor_assoc : (a b c : Bool) → xor (xor a b) c ≡ xor a (xor b c)
xor_assoc = grind arith

pub xor_swap : (a b c d : Bool) → xor (xor a b) (xor c d) ≡ xor (xor a c) (xor b d)
xor_swap = grind arith

pub and_over_xor : (a b c : Bool) → (xor a b) && c ≡ xor (a && c) (b && c)
and_over_xor = grind arith

pub sum_same : (n : ℕ) (f h : ℕ → Bool) → ((i : ℕ) → i < n → f i ≡ h i) → sum_to n f ≡ sum_to n h
sum_same zero f h p = refl
sum_same (suc n) f h p = λ t. xor (p n (omega arith) t) (sum_same n f h (λ i less. p i (omega arith)) t)

pub sum_zero : (n : ℕ) (f : ℕ → Bool) → ((i : ℕ) → i < n → f i ≡ false) → sum_to n f ≡ false
sum_zero zero f h = refl
sum_zero (suc n) f h = ap (λ (b : Bool). xor b (sum_to n f)) (h n (omega arith)) ∙ sum_zero n f (λ i less. h i (omega arith))

pub sum_add : (n : ℕ) (f h : ℕ → Bool) → sum_to n (λ i. xor (f i) (h i)) ≡ xor (sum_to n f) (sum_to n h)
sum_add zero f h = refl
sum_add (suc n) f h = ap (xor (xor (f n) (h n))) (sum_add n f h) ∙ xor_swap (f n) (h n) (sum_to n f) (sum_to n h)

-- a sum over the first n columns of the bits of a set, where a table gives each column its bit
abbrev pub weighed : ℕ → (ℕ → Bool) → (ℕ → Bool) → Bool
weighed n x f = sum_to n (λ c. f c && x c)

pub weighed_zero : (n : ℕ) (x : ℕ → Bool) → weighed n x (λ c. false) ≡ false
weighed_zero n x = sum_zero n (λ c. false) (λ i less. refl)

pub weighed_add : (n : ℕ) (x f h : ℕ → Bool) → weighed n x (λ c. xor (f c) (h c)) ≡ xor (weighed n x f) (weighed n x h)
weighed_add n x f h =
    sum_same n (λ i. (xor (f i) (h i)) && x i) (λ i. xor (f i && x i) (h i && x i)) (λ i less. and_over_xor (f i) (h i) (x i))
    ∙ sum_add n (λ i. f i && x i) (λ i. h i && x i)

pub weighed_and : (n : ℕ) (x : ℕ → Bool) (b : Bool) (f : ℕ → Bool) → weighed n x (λ c. b && f c) ≡ b && weighed n x f
weighed_and n x true f = refl
weighed_and n x false f = weighed_zero n x

one_of : (n q : ℕ) (f : ℕ → Bool) → (q < n) ⊎ (n ≡ q) → ((c : ℕ) → c ≢ q → f c ≡ false) → (q < n → sum_to n f ≡ f q) → sum_to (suc n) f ≡ f q
one_of n q f (inl less) zeros ih = ap (λ (b : Bool). xor b (sum_to n f)) (zeros n (omega arith)) ∙ ih less
one_of n q f (inr same) zeros ih =
    ap (xor (f n)) (sum_zero n f (λ i less. zeros i (omega arith))) ∙ xor_false (f n) ∙ ap f same

at_or_before : (q n : ℕ) → q < suc n → (q < n) ⊎ (n ≡ q)
at_or_before q n h = elim (cases_lt q n) [ inl less ↦ inl less | inr least ↦ inr (omega arith) ]

-- a sum with one place that is not 0 is the bit there
pub sum_one : (n q : ℕ) (f : ℕ → Bool) → q < n → ((c : ℕ) → c ≢ q → f c ≡ false) → sum_to n f ≡ f q
sum_one zero q f less zeros = absurd (omega arith)
sum_one (suc n) q f less zeros = one_of n q f (at_or_before q n less) zeros (λ before. sum_one n q f before zeros)

pub xor_comm : (a b : Bool) → xor a b ≡ xor b a
xor_comm = grind arith

pub plus_false : (old : Bool) → old ≡ xor old false
plus_false true = refl
plus_false false = refl
