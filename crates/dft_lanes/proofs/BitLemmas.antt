-- One bit of a word that two words make.
use Rattle.std.proofs.Common.{ℕ, ◌≡◌, ◌<◌, ◌+◌, ◌%◌, min, max, ap, arith, ◌∙◌}
use Rattle.std.specs.Prelude.{◌&&◌, ◌||◌, ◌==◌, bit_and, bit_or, bit_xor}
use Rattle.std.specs.Int.{bit_at}
use Rattle.std.proofs.lemmas.Bool.Decides.{nat_tests}
use Rattle.std.proofs.lemmas.Nat.Bits.{bit_at_and, bit_at_or, bit_at_xor, bit_at-lt}
use Rattle.dft_base.specs.Solutions.{xor}

both : (a b : ℕ) → a < 2 → b < 2 → (min a b == 1) ≡ (a == 1) && (b == 1)
both a b a_fits b_fits = grind (arith, nat_tests)

either : (a b : ℕ) → a < 2 → b < 2 → (max a b == 1) ≡ (a == 1) || (b == 1)
either a b a_fits b_fits = grind (arith, nat_tests)

odd : (a b : ℕ) → a < 2 → b < 2 → ((a + b) % 2 == 1) ≡ xor (a == 1) (b == 1)
odd a b a_fits b_fits = grind (arith, nat_tests)

pub and_bit : (a b i : ℕ) → (bit_at (bit_and a b) i == 1) ≡ (bit_at a i == 1) && (bit_at b i == 1)
and_bit a b i = ap (λ (v : ℕ). v == 1) (bit_at_and a b i) ∙ both (bit_at a i) (bit_at b i) (bit_at-lt a i) (bit_at-lt b i)

pub or_bit : (a b i : ℕ) → (bit_at (bit_or a b) i == 1) ≡ (bit_at a i == 1) || (bit_at b i == 1)
or_bit a b i = ap (λ (v : ℕ). v == 1) (bit_at_or a b i) ∙ either (bit_at a i) (bit_at b i) (bit_at-lt a i) (bit_at-lt b i)

pub xor_bit : (a b i : ℕ) → (bit_at (bit_xor a b) i == 1) ≡ xor (bit_at a i == 1) (bit_at b i == 1)
xor_bit a b i = ap (λ (v : ℕ). v == 1) (bit_at_xor a b i) ∙ odd (bit_at a i) (bit_at b i) (bit_at-lt a i) (bit_at-lt b i)
