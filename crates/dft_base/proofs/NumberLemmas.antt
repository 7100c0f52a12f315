-- Numbers that are compared.
use Rattle.std.specs.Prelude.{nat_lt}
use Rattle.std.proofs.Common.{ℕ, ◌≡◌, ◌==◌, suc, false, arith, ◌<◌, true, ◌+◌, ◌-◌, ap, inl, inr, refl, zero, ◌≤◌, ◌⊎◌}
use Rattle.std.proofs.lemmas.Bool.Decides.{nat_tests}
use Rattle.std.proofs.lemmas.Bool.{le-ltb, lt-ltb}

pub not_zero : (n : ℕ) → (suc n == 0) ≡ false
not_zero n = grind (arith, nat_tests)

pub eqb_turned : (a b : ℕ) → (a == b) ≡ (b == a)
eqb_turned a b = grind arith

pub less_apart : (a b : ℕ) → a < b → (a == b) ≡ false
less_apart = grind arith

pub more_apart : (a b : ℕ) → a < b → (b == a) ≡ false
more_apart = grind arith

pub same_number : (n : ℕ) → (n == n) ≡ true
same_number = grind arith

-- the same for numbers that go up to a bound
pub one_left : (k total : ℕ) → k < total → total - k ≡ suc (total - (k + 1))
one_left k total less = omega arith

pub minus_zero : (n : ℕ) → n - 0 ≡ n
minus_zero n = omega arith

pub same_or_past : (a b : ℕ) → a ≤ b → (a ≡ b) ⊎ (a + 1 ≤ b)
same_or_past zero zero le = inl refl
same_or_past zero (suc b) le = inr (omega arith)
same_or_past (suc a) zero le = absurd (omega (arith, le))
same_or_past (suc a) (suc b) le = elim (same_or_past a b (omega (arith, le))) [ inl same ↦ inl (ap suc same) | inr less ↦ inr (omega (arith, less)) ]

pub other_test : (i k : ℕ) → (i ≡ k → ⊥) → (k == i) ≡ false
other_test i k apart = grind (arith, nat_tests)

pub not_less : (limit dead : ℕ) → dead ≤ limit → nat_lt limit dead ≡ false
not_less limit dead few = le-ltb limit dead few

pub is_less : (limit dead : ℕ) → limit < dead → nat_lt limit dead ≡ true
is_less limit dead more = lt-ltb limit dead more
