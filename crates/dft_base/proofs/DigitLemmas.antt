-- Texts of decimal digits.
use Rattle.std.proofs.Common.{◌≡◌, ◌&&◌, ℕ, true, refl, ap₂}
use Rattle.std.specs.Char.{is_ascii_digit}
use Rattle.std.specs.Int.{IsInRange}
use Rattle.std.specs.List.{list_all}
use Rattle.std.specs.Str.Parse.{digits_value}
use Rattle.std.proofs.lemmas.Bool.{leb-true, le-leb, and_parts}
use Rattle.std.proofs.lemmas.Str.Parse.{IsDigitsTest, IsNumeralModel, numerals_by_value}

digit_tells : (c : ℕ) → is_ascii_digit c ≡ true → IsInRange 48 57 c
digit_tells c e = let k = and_parts _ _ e in (leb-true 48 c k.0, leb-true c 57 k.1)

tells_digit : (c : ℕ) → IsInRange 48 57 c → is_ascii_digit c ≡ true
tells_digit c k = ap₂ (λ a b. a && b) (le-leb 48 c k.0) (le-leb c 57 k.1)

tells_digits : IsDigitsTest (λ ds. list_all is_ascii_digit ds ≡ true)
tells_digits = record {
  empty = refl;
  parts = λ c cs e. let k = and_parts (is_ascii_digit c) (list_all is_ascii_digit cs) e in (digit_tells c k.0, k.1);
  more = λ c cs k e. ap₂ (λ a b. a && b) (tells_digit c k) e;
}

-- texts of digits are numerals, of their value to the base ten
pub all_digits : IsNumeralModel (λ ds. list_all is_ascii_digit ds ≡ true) (digits_value 10)
all_digits = numerals_by_value (λ ds. list_all is_ascii_digit ds ≡ true) tells_digits
