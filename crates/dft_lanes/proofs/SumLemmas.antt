-- Sums of bits.
use Rattle.std.proofs.Common.{ℕ, zero, suc, Bool, ◌≡◌, ◌+◌, ap, arith, ◌∙◌}
use Rattle.dft_base.specs.Solutions.{xor, sum_to}

xor_assoc : (a b c : Bool) → xor a (xor b c) ≡ xor (xor a b) c
xor_assoc = grind arith

-- a sum by its first bits and the others
pub sum_split : (n m : ℕ) (f : ℕ → Bool) → sum_to (n + m) f ≡ xor (sum_to m (λ i. f (n + i))) (sum_to n f)
sum_split n zero f = ap (λ (k : ℕ). sum_to k f) (omega arith)
sum_split n (suc m) f =
    let next : n + suc m ≡ suc (n + m) = omega arith in
    ap (λ (k : ℕ). sum_to k f) next ∙ ap (xor (f (n + m))) (sum_split n m f) ∙ xor_assoc (f (n + m)) (sum_to m (λ i. f (n + i))) (sum_to n f)
