-- Sums over GF(2).
use Rattle.std.proofs.Common.{ℕ, zero, suc, Bool, true, false, ◌≡◌, ◌<◌, refl, sym, ap, arith, ◌∙◌, ◌⊎◌, inl, inr}
use Rattle.std.proofs.lemmas.Bool.{cases_lt}
use Rattle.std.specs.Prelude.{◌&&◌}
use Rattle.dft_base.proofs.BitLemmas.{and_assoc}
use Rattle.dft_base.specs.Solutions.{xor, sum_to}
use Rattle.dft_base.proofs.SumLemmas.{and_over_xor, sum_same, sum_zero, sum_add}

pub xor_self : (a : Bool) → xor a a ≡ false
xor_self true = refl
xor_self false = refl

pub sum_and : (n : ℕ) (b : Bool) (f : ℕ → Bool) → sum_to n (λ i. b && f i) ≡ b && sum_to n f
sum_and n true f = refl
sum_and n false f = sum_zero n (λ i. false) (λ i less. refl)

-- the bits of one factor add up
pub sum_add_left : (n : ℕ) (f h x : ℕ → Bool) → sum_to n (λ i. (xor (f i) (h i)) && x i) ≡ xor (sum_to n (λ i. f i && x i)) (sum_to n (λ i. h i && x i))
sum_add_left n f h x =
    sum_same n (λ i. (xor (f i) (h i)) && x i) (λ i. xor (f i && x i) (h i && x i)) (λ i less. and_over_xor (f i) (h i) (x i))
    ∙ sum_add n (λ i. f i && x i) (λ i. h i && x i)

sum_and_right : (n : ℕ) (b : Bool) (f : ℕ → Bool) → (sum_to n f) && b ≡ sum_to n (λ i. f i && b)
sum_and_right zero b f = refl
sum_and_right (suc n) b f = and_over_xor (f n) (sum_to n f) b ∙ ap (xor (f n && b)) (sum_and_right n b f)

-- two sums change places
sum_swap : (n m : ℕ) (f : ℕ → ℕ → Bool) → sum_to n (λ i. sum_to m (λ j. f i j)) ≡ sum_to m (λ j. sum_to n (λ i. f i j))
sum_swap zero m f = sym (sum_zero m (λ j. false) (λ j less. refl))
sum_swap (suc n) m f = ap (xor (sum_to m (f n))) (sum_swap n m f) ∙ sym (sum_add m (f n) (λ j. sum_to n (λ i. f i j)))

-- the sum over a sum of sets is the sum of the sums over them
pub sum_over_sum : (n m : ℕ) (p : ℕ → Bool) (a : ℕ → ℕ → Bool) (x : ℕ → Bool) →
    sum_to n (λ c. sum_to m (λ j. p j && a j c) && x c) ≡ sum_to m (λ j. p j && sum_to n (λ c. a j c && x c))
sum_over_sum n m p a x =
    sum_same n (λ c. sum_to m (λ j. p j && a j c) && x c) (λ c. sum_to m (λ j. (p j && a j c) && x c)) (λ c less. sum_and_right m (x c) (λ j. p j && a j c))
    ∙ sum_swap n m (λ c j. (p j && a j c) && x c)
    ∙ sum_same m (λ j. sum_to n (λ c. (p j && a j c) && x c)) (λ j. p j && sum_to n (λ c. a j c && x c))
    (λ j less. sum_same n (λ c. (p j && a j c) && x c) (λ c. p j && (a j c && x c)) (λ c h. and_assoc (p j) (a j c) (x c)) ∙ sum_and n (p j) (λ c. a j c && x c))

cases_last : (c n : ℕ) → c < suc n → (c ≡ n) ⊎ (c < n)
cases_last c n h = elim (cases_lt c n) [ inl less ↦ inr less | inr least ↦ inl (omega arith) ]

last_of : (n c : ℕ) (f : ℕ → Bool) → (c ≡ n) ⊎ (c < n) → (c < n → f n ≡ false) → (c < n → sum_to n f ≡ xor (f c) (sum_to c f)) → sum_to (suc n) f ≡ xor (f c) (sum_to c f)
last_of n c f (inl same) zero_at ih = λ i. xor (f (sym same i)) (sum_to (sym same i) f)
last_of n c f (inr less) zero_at ih = ap (λ (b : Bool). xor b (sum_to n f)) (zero_at less) ∙ ih less

-- a sum ends at its last bit
pub sum_last : (n c : ℕ) (f : ℕ → Bool) → c < n → ((d : ℕ) → c < d → f d ≡ false) → sum_to n f ≡ xor (f c) (sum_to c f)
sum_last zero c f h rest = absurd (omega arith)
sum_last (suc n) c f h rest = last_of n c f (cases_last c n h) (rest n) (λ less. sum_last n c f less rest)

pub xor_back : (a b : Bool) → xor (xor a b) b ≡ a
xor_back = grind arith

pub xor_cancel : (a b c : Bool) → xor a b ≡ xor c b → a ≡ c
xor_cancel = grind arith
