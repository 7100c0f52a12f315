-- Numbers are read as they are written.
use Rattle.std.proofs.Common.{ℕ, zero, suc, ◌+◌, ◌*◌, ◌/◌, ◌%◌, ◌<◌, ◌≤◌, ◌^◌, ◌≡◌, ◌==◌, Bool, true, false, [], ◌∷◌, ◌++◌, length, get_or, Option, None, Some, option_and_then, refl, ap, arith, ◌∙◌}
use Rattle.std.specs.Prelude.{if◌then◌else◌, nat_le, nat_lt}
use Rattle.std.specs.Fmt as fmt
use Rattle.std.specs.Fmt.{decimal}
use Rattle.std.specs.List.{list_all}
use Rattle.std.proofs.lemmas.Bool.Decides.{nat_tests}
use Rattle.std.proofs.lemmas.Fmt.{decimal_by_steps, decimal_nonempty, digits_decimal, first_decimal}
use Rattle.std.proofs.lemmas.List.Elements.{All-from_get_or}
use Rattle.std.proofs.lemmas.List.Sums.{list_all-from_AllPass}
use Rattle.std.proofs.lemmas.Str.Parse.{numerals_by_value, tells_by_index}
use Rattle.dft_base.specs.Lexing.{Text}
use Rattle.dft_report_reader.specs.Words.{has_leading_zero, is_digit, next_value, number_of, value_from, with_digit}
use Rattle.dft_report_reader.specs.WrittenRead.{IsSmall}

and_then_some : (o : Option ℕ) → option_and_then (λ v. Some v) o ≡ o
and_then_some None = refl
and_then_some (Some v) = refl

and_then_last : (o : Option ℕ) (word : Text) (c : ℕ) → ((v : ℕ) → value_from v (word ++ c ∷ []) ≡ option_and_then (λ w. next_value w c) (value_from v word)) →
    option_and_then (λ next. value_from next (word ++ c ∷ [])) o ≡ option_and_then (λ w. next_value w c) (option_and_then (λ next. value_from next word) o)
and_then_last None word c h = refl
and_then_last (Some v) word c h = h v

value_last : (word : Text) (c v : ℕ) → value_from v (word ++ c ∷ []) ≡ option_and_then (λ w. next_value w c) (value_from v word)
value_last [] c v = and_then_some (next_value v c)
value_last (b ∷ word) c v = and_then_last (next_value v b) word c (λ w. value_last word c w)

next_is : (value d : ℕ) → d < 10 → 10 * value + d < 4294967296 → next_value value (48 + d) ≡ Some (10 * value + d)
next_is value d small less =
    let digit : is_digit (48 + d) ≡ true = grind (arith, nat_tests) in
    let sum : with_digit value (48 + d) ≡ 10 * value + d = omega arith in
    let below : nat_lt (with_digit value (48 + d)) 4294967296 ≡ true = grind (arith, nat_tests) in
    ap (λ (t : Bool). if t then (if nat_lt (with_digit value (48 + d)) 4294967296 then Some (with_digit value (48 + d)) else None) else None) digit
    ∙ ap (λ (t : Bool). if t then Some (with_digit value (48 + d)) else None) below ∙ ap (λ (k : ℕ). Some k) sum

abbrev IsRead : ℕ → Text → Type 0
IsRead number word = number < 4294967296 → value_from 0 word ≡ Some number

one_digit : (number : ℕ) → number < 10 → IsRead number ((48 + number) ∷ [])
one_digit number less small =
    let at : 10 * 0 + number ≡ number = omega arith in
    and_then_some (next_value 0 (48 + number)) ∙ next_is 0 number less (omega (arith, less)) ∙ ap (λ (k : ℕ). Some k) at

more_digits : (number : ℕ) (word : Text) → 10 ≤ number → IsRead (number / 10) word → IsRead number (word ++ ((48 + number % 10) ∷ []))
more_digits number word large before small =
    let front : value_from 0 word ≡ Some (number / 10) = before (omega (arith, small)) in
    let whole : 10 * (number / 10) + number % 10 ≡ number = omega arith in
    value_last word (48 + number % 10) 0 ∙ ap (λ (o : Option ℕ). option_and_then (λ w. next_value w (48 + number % 10)) o) front
    ∙ next_is (number / 10) (number % 10) (omega arith) (omega (arith, whole, small)) ∙ ap (λ (k : ℕ). Some k) whole

-- ---- leading zeros

not_zero : (b : ℕ) → 48 < b → (b == 48) ≡ false
not_zero b h = grind (arith, nat_tests)

no_zero : (word : Text) → 48 < get_or word 0 0 → has_leading_zero word ≡ false
no_zero [] h = refl
no_zero (b ∷ []) h = refl
no_zero (b ∷ c ∷ word) h = not_zero b h

zero_read : number_of (decimal 0) ≡ Some 0
unfolding fmt.digits
zero_read = refl

some_read : (number : ℕ) (word : Text) → 0 < length word → has_leading_zero word ≡ false → value_from 0 word ≡ Some number → number_of word ≡ Some number
some_read number [] some none h = absurd (omega (arith, some))
some_read number (b ∷ word) some none h = ap (λ (t : Bool). if t then None else value_from 0 (b ∷ word)) none ∙ h

-- a number is read
pub number_read : (number : ℕ) → IsSmall number → number_of (decimal number) ≡ Some number
number_read zero small = zero_read
number_read (suc k) small =
    let wide : suc k < 2 ^ 64 = omega (arith, small) in
    some_read (suc k) (decimal (suc k)) (decimal_nonempty (suc k) wide) (no_zero (decimal (suc k)) (first_decimal (suc k) (omega arith) wide)) (decimal_by_steps IsRead one_digit more_digits (suc k) wide small)

-- ---- bytes

-- no byte of a word is a blank
abbrev pub IsFine : Text → Type 0
IsFine word = list_all (λ b. nat_le 33 b) word ≡ true

digit_fine : (b : ℕ) → 48 ≤ b → nat_le 33 b ≡ true
digit_fine b h = grind (arith, nat_tests)

pub number_fine : (number : ℕ) → IsSmall number → IsFine (decimal number)
number_fine number small =
    let wide : number < 2 ^ 64 = omega (arith, small) in
    list_all-from_AllPass (λ b. nat_le 33 b) (decimal number)
    (All-from_get_or (λ b. nat_le 33 b ≡ true) (decimal number) 0 (λ i within. let d = digits_decimal (numerals_by_value _ tells_by_index) number wide i within in digit_fine (get_or (decimal number) i 0) (omega (arith, d.0))))
