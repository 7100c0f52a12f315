-- What is read as a number is its decimal form.
use Rattle.std.proofs.Common.{ℕ, ◌+◌, ◌*◌, ◌<◌, ◌≤◌, ◌^◌, ◌≡◌, ◌==◌, Bool, true, false, [], ◌∷◌, length, get_or, Option, None, Some, refl, sym, ap, arith, ◌∙◌}
use Rattle.std.specs.Prelude.{if◌then◌else◌, nat_lt}
use Rattle.std.specs.Fmt.{decimal}
use Rattle.std.specs.Str.Parse.{AllDigits, digits_value_after}
use Rattle.std.specs.Char.{digit_value}
use Rattle.std.proofs.lemmas.Bool.Decides.{nat_tests}
use Rattle.std.proofs.lemmas.Fmt.{decimal-digits_value}
use Rattle.std.proofs.lemmas.Str.{digit_value_digit}
use Rattle.std.proofs.lemmas.Option.{option_and_then_some, same_Some}
use Rattle.std.proofs.lemmas.Str.Parse.{numerals_by_value, tells_digits}
use Rattle.dft_base.specs.Lexing.{Text}
use Rattle.dft_report_reader.specs.Words.{has_leading_zero, is_digit, next_value, number_of, value_from, with_digit}

-- a value that stands behind a test
pub behind_test : {A : Type 0} (t : Bool) (o : Option A) (x : A) → (if t then o else None) ≡ Some x → (t ≡ true) × (o ≡ Some x)
behind_test true o x e = (refl, e)
behind_test false o x e = absurd cc

-- ---- a digit more

digit_range : (b : ℕ) → is_digit b ≡ true → (48 ≤ b) × (b ≤ 57)
digit_range b e = (grind (arith, nat_tests, e), grind (arith, nat_tests, e))

below_limit : (n : ℕ) → nat_lt n 4294967296 ≡ true → n < 4294967296
below_limit n e = grind (arith, nat_tests, e)

record Steps (value b n : ℕ) : Type 0 where
  pub digit : digit_value b < 10
  pub is : value * 10 + digit_value b ≡ n
  pub small : n < 4294967296

step_more : (value b n : ℕ) → next_value value b ≡ Some n → Steps value b n
step_more value b n e =
    let r = behind_test (is_digit b) (if nat_lt (with_digit value b) 4294967296 then Some (with_digit value b) else None) n e in
    let s = behind_test (nat_lt (with_digit value b) 4294967296) (Some (with_digit value b)) n r.1 in
    let range = digit_range b r.0 in
    let same : with_digit value b ≡ n = same_Some (with_digit value b) n s.1 in
    let at : digit_value b + 48 ≡ b = digit_value_digit b range in
    let less = below_limit (with_digit value b) s.0 in
    record { digit = omega (arith, at, range.0, range.1); is = omega (arith, at, same); small = omega (arith, same, less) }

record Reads (value : ℕ) (word : Text) (n : ℕ) : Type 0 where
  pub digits : AllDigits 10 word
  pub is : digits_value_after 10 value word ≡ n
  pub small : n < 4294967296

reads_more : (word : Text) (value n : ℕ) → value < 4294967296 → value_from value word ≡ Some n → Reads value word n
reads_more [] value n less e = record { digits = tt; is = same_Some value n e; small = let same = same_Some value n e in omega (arith, same, less) }
reads_more (b ∷ word) value n less e =
    option_and_then_some (λ next. value_from next word) (next_value value b) n e (λ next step rest.
    let s = step_more value b next step in
    let r = reads_more word next n s.small rest in
    record { digits = (s.digit, r.digits); is = ap (λ (k : ℕ). digits_value_after 10 k word) s.is ∙ r.is; small = r.small })

lead_one : (word : Text) → has_leading_zero word ≡ false → 0 < length word → get_or word 0 0 ≡ 48 → length word ≡ 1
lead_one [] none some lead = absurd (omega (arith, some))
lead_one (b ∷ []) none some lead = refl
lead_one (b ∷ c ∷ word) none some lead = absurd (no b lead none)
  where
    no : (b : ℕ) → b ≡ 48 → (b == 48) ≡ false → ⊥
    no b same e = grind (arith, nat_tests, same, e)

-- a value that stands behind a test that fails
pub behind_not : {A : Type 0} (t : Bool) (o : Option A) (x : A) → (if t then None else o) ≡ Some x → (t ≡ false) × (o ≡ Some x)
behind_not true o x e = absurd cc
behind_not false o x e = (refl, e)

-- The word of a number is its decimal form, and the number is below 2^32.
pub number_word : (word : Text) (n : ℕ) → number_of word ≡ Some n → (word ≡ decimal n) × (n < 2 ^ 32)
number_word [] n e = absurd cc
number_word (b ∷ word) n e =
    let r = behind_not (has_leading_zero (b ∷ word)) (value_from 0 (b ∷ word)) n e in
    let reads = reads_more (b ∷ word) 0 n (omega arith) r.1 in
    let is = reads.is in
    let small = reads.small in
    (sym (decimal-digits_value (numerals_by_value _ tells_digits) (b ∷ word) reads.digits (omega arith) (lead_one (b ∷ word) r.0 (omega arith)) (omega (arith, is, small))) ∙ ap decimal is, omega (arith, small))
