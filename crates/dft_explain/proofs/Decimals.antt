-- What `parse` gives of decimal digits.
use Rattle.std.proofs.Common.{◌≡◌, ◌<◌, ◌&&◌, ◌^◌, ℕ, Bool, true, false, List, Some, None, Result, Ok, Err, if◌then◌else◌, length, refl, sym, ap, ap₂, ◌∙◌}
use Rattle.std.specs.Char.{is_ascii_digit}
use Rattle.std.specs.List.{list_all}
use Rattle.std.specs.Result.{OkIff, result_ok}
use Rattle.std.specs.Str.{IsUtf8}
use Rattle.std.specs.Str.Parse.{ParsesUnsigned, digits_value}
use Rattle.std.proofs.lemmas.Bool.{ltb-true, lt-ltb, and_parts}
use Rattle.std.proofs.lemmas.Fmt.{IsAscii-from_digits}
use Rattle.std.proofs.lemmas.Str.{IsUtf8-from_ascii}
use Rattle.std.proofs.lemmas.Str.Parse.{parse_digits}
use Rattle.dft_base.proofs.DigitLemmas.{all_digits}
use Rattle.dft_explain.specs.Faults.{decimal_of}

-- digits are text
pub digits_are_text : (text : List ℕ) → list_all is_ascii_digit text ≡ true → IsUtf8 text
digits_are_text text e = IsUtf8-from_ascii text (IsAscii-from_digits text (all_digits.to text e))

three : (a b c : Bool) → a ≡ true → b ≡ true → c ≡ true → (a && (b && c)) ≡ true
three a b c p q r = ap₂ (λ x y. x && y) p (ap₂ (λ x y. x && y) q r)

passes : (text : List ℕ) → 0 < length text → list_all is_ascii_digit text ≡ true → digits_value 10 text < 2 ^ 64 → decimal_of text ≡ Some (digits_value 10 text)
passes text some digits below = ap (λ t. if t then Some (digits_value 10 text) else None) (three _ _ _ (lt-ltb _ _ some) digits (lt-ltb _ _ below))

fails : (text : List ℕ) (a b c : Bool) → (a && (b && c)) ≡ true → (a ≡ true) × (c ≡ true)
fails text a b c e = (((and_parts a (b && c) e).0), (and_parts b c (and_parts a (b && c) e).1).1)

no_decimal : (value : ℕ) (t : Bool) → (t ≡ true → ⊥) → (if t then Some value else None) ≡ None
no_decimal value false fault = refl
no_decimal value true fault = absurd (fault refl)

-- what `parse` gives of some digits
pub read_as : {E : Type 0} (text : List ℕ) (r : Result ℕ E) → list_all is_ascii_digit text ≡ true → ParsesUnsigned 64 10 text r → result_ok r ≡ decimal_of text
read_as {E} text r digits parses = go r (parse_digits all_digits 64 text r parses digits)
  where
    go : (q : Result ℕ E) → OkIff q ((0 < length text) × (digits_value 10 text < 2 ^ 64)) (digits_value 10 text) → result_ok q ≡ decimal_of text
    go (Ok x) is = ap Some is.1 ∙ sym (passes text is.0.0 digits is.0.1)
    go (Err e) is = sym (no_decimal (digits_value 10 text) _ (λ t. let k = fails text _ _ _ t in is (ltb-true _ _ k.0, ltb-true _ _ k.1)))
