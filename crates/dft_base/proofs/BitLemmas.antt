-- Bits, and tests joined by && and ||.
use Rattle.std.proofs.Common.{Bool, true, false, ◌≡◌, refl, ◌&&◌, sym, true≢false, arith, inl, inr, not, ◌∙◌, ◌⊎◌}
use Rattle.std.specs.Prelude.{◌||◌}
use Rattle.dft_base.specs.Solutions.{xor}

pub or_false : (b : Bool) → b || false ≡ b
or_false true = refl
or_false false = refl

pub or_true : (b : Bool) → (b || true) ≡ true
or_true true = refl
or_true false = refl

pub or_assoc : (a b c : Bool) → ((a || b) || c) ≡ (a || (b || c))
or_assoc true b c = refl
or_assoc false b c = refl

pub or_swap : (a b c : Bool) → (a || (b || c)) ≡ (b || (a || c))
or_swap true true c = refl
or_swap true false c = refl
or_swap false b c = refl

pub and_true : (a b : Bool) → b ≡ true → a ≡ (a && b)
and_true true b e = sym e
and_true false b e = refl

pub and_first : (a b : Bool) → (a && b) ≡ true → a ≡ true
and_first true b e = refl
and_first false b e = absurd (true≢false (sym e))

pub and_second : (a b : Bool) → (a && b) ≡ true → b ≡ true
and_second true b e = e
and_second false b e = absurd (true≢false (sym e))

pub true_false : (b : Bool) → b ≡ true → b ≡ false → ⊥
true_false b holds fails = let f : ⊥ = cc in f

pub or_later : (b c : Bool) → b ≡ false → (b || c) ≡ true → c ≡ true
or_later false c is up = up
or_later true c is up = absurd cc

pub neither : (a b : Bool) → a || b ≡ false → a ≡ false
neither true b e = e
neither false b e = refl

pub same_tests : (a b : Bool) → (a ≡ true → b ≡ true) → (b ≡ true → a ≡ true) → a ≡ b
same_tests true b to from = sym (to refl)
same_tests false true to from = from refl
same_tests false false to from = refl

pub or_not : (a b : Bool) → b ≡ false → (a || b) ≡ a
or_not true b e = refl
or_not false b e = e

pub not_true : (b : Bool) → not b ≡ true → b ≡ false
not_true true is = sym is
not_true false is = refl

pub same_bit : (a b : Bool) → not (xor a b) ≡ true → a ≡ b
same_bit = grind arith

pub bit_same : (a : Bool) → not (xor a a) ≡ true
bit_same true = refl
bit_same false = refl

pub not_itself : (b : Bool) → not b ≡ true → b ≡ true → ⊥
not_itself true a b = absurd cc
not_itself false a b = absurd cc

pub same_or_not : (a b : Bool) → (a ≡ b) ⊎ (a ≡ not b)
same_or_not true true = inl refl
same_or_not true false = inr refl
same_or_not false true = inr refl
same_or_not false false = inl refl

pub other_bit : (b : Bool) → b ≡ not b → ⊥
other_bit true e = cc
other_bit false e = cc

pub first_false : (a b : Bool) → (a && b) ≡ false → b ≡ true → a ≡ false
first_false true b h is = absurd (let q : true ≡ false = sym is ∙ h in cc)
first_false false b h is = refl

pub not_of : (b : Bool) → (b ≡ true → ⊥) → not b ≡ true
not_of true fails = absurd (fails refl)
not_of false fails = refl

pub xor_same : (x y : Bool) → xor x y ≡ false → x ≡ y
xor_same true true is = refl
xor_same true false is = cc
xor_same false true is = cc
xor_same false false is = refl

pub with_true : (b : Bool) → b ≡ (b && true)
with_true true = refl
with_true false = refl

-- what follows from the second test of two
pub or_more : (a b c : Bool) → (b ≡ true → c ≡ true) → (a || b) ≡ true → (a || c) ≡ true
or_more true b c more is = refl
or_more false b c more is = more is

pub and_assoc : (a b c : Bool) → ((a && b) && c) ≡ (a && (b && c))
and_assoc true b c = refl
and_assoc false b c = refl
