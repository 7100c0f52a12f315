-- Values that are numbers of a range.
use Rattle.std.proofs.Common.{◌≡◌, ◌∙◌, ◌≤◌, ◌&&◌, ◌^◌, ℕ, Bool, true, false, not, length, Some, None, refl, ap, ap₂}
use Rattle.std.proofs.lemmas.Bool.{and_parts, le-leb, ltb-false}
use Rattle.std.proofs.lemmas.Option.{same_Some}
use Rattle.std.specs.Char.{is_ascii_digit}
use Rattle.std.specs.List.{list_all}
use Rattle.std.specs.Prelude.{if◌then◌else◌, nat_le, nat_lt}
use Rattle.std.specs.Str.Parse.{digits_value}
use Rattle.dft_base.proofs.BitLemmas.{not_true}
use Rattle.dft_base.proofs.NumberLemmas.{not_less}
use Rattle.dft_command_line.specs.CommandLine as line
use Rattle.dft_command_line.specs.Words.{IsDecimal}
use Rattle.dft_command_line.proofs.JobWords.{decimal_is, is_decimal_of}
use Rattle.dft_explain.specs.Faults.{NoNumber, Range, Text, chains, channels, decimal_of, fault_of_number, is_between, is_in, limit, longest, masks, outputs, seed, size}

-- a number in a range
pub record Number (digits least most : ℕ) (text : Text) : Type 0 where
  pub number : ℕ
  pub is : IsDecimal digits text number
  pub low : least ≤ number
  pub high : number ≤ most

whole_test : (digits : ℕ) (text : Text) → nat_lt digits (length text) ≡ false → (nat_lt 0 (length text) && (list_all is_ascii_digit text && nat_lt (digits_value 10 text) (2 ^ 64))) ≡ true → line.is_decimal digits text ≡ true
whole_test digits text few all =
    let some = and_parts (nat_lt 0 (length text)) (list_all is_ascii_digit text && nat_lt (digits_value 10 text) (2 ^ 64)) all in
    ap₂ (λ (a b : Bool). a && b) some.0 (ap₂ (λ (a b : Bool). a && b) (le-leb (length text) digits (ltb-false digits (length text) few)) some.1)

between : (digits least most : ℕ) (text : Text) (t s : Bool) → nat_lt digits (length text) ≡ false → (nat_lt 0 (length text) && (list_all is_ascii_digit text && nat_lt (digits_value 10 text) (2 ^ 64))) ≡ t
    → nat_lt (digits_value 10 text) least ≡ s → is_between least most (if t then Some (digits_value 10 text) else None) ≡ true → (if s then false else not (nat_lt most (digits_value 10 text))) ≡ true → Number digits least most text
between digits least most text false s few all low e f = absurd cc
between digits least most text true true few all low e f = absurd cc
between digits least most text true false few all low e f = record {
  number = digits_value 10 text;
  is = is_decimal_of digits text (digits_value 10 text) (ap (λ (b : Bool). if b then Some (digits_value 10 text) else None) (whole_test digits text few all));
  low = ltb-false (digits_value 10 text) least low;
  high = ltb-false most (digits_value 10 text) (not_true (nat_lt most (digits_value 10 text)) f);
}

-- the value is there, and then in its range
told_between : (least most : ℕ) (text : Text) (t : Bool) → is_between least most (if t then Some (digits_value 10 text) else None) ≡ true → (if nat_lt (digits_value 10 text) least then false else not (nat_lt most (digits_value 10 text))) ≡ true
told_between least most text true e = e
told_between least most text false e = absurd cc

number_by : (digits least most : ℕ) (text : Text) (t : Bool) → nat_lt digits (length text) ≡ t → (if t then false else is_between least most (decimal_of text)) ≡ true → Number digits least most text
number_by digits least most text true few e = absurd cc
number_by digits least most text false few e =
    between digits least most text _ (nat_lt (digits_value 10 text) least) few refl refl e (told_between least most text (nat_lt 0 (length text) && (list_all is_ascii_digit text && nat_lt (digits_value 10 text) (2 ^ 64))) e)

tested : (t : Bool) (value number : ℕ) → (if t then Some value else None) ≡ Some number → (t ≡ true) × (value ≡ number)
tested true value number e = (refl, same_Some value number e)
tested false value number e = absurd cc

number_read : (digits : ℕ) (text : Text) (number : ℕ) → IsDecimal digits text number → decimal_of text ≡ Some number
number_read digits text number is =
    let test = tested (line.is_decimal digits text) (digits_value 10 text) number (decimal_is digits text number is) in
    let rest = list_all is_ascii_digit text && nat_lt (digits_value 10 text) (2 ^ 64) in
    let some = and_parts (nat_lt 0 (length text)) (nat_le (length text) digits && rest) test.0 in
    let few = and_parts (nat_le (length text) digits) rest some.1 in
    ap (λ (b : Bool). if b then Some (digits_value 10 text) else None) (ap₂ (λ (a b : Bool). a && b) some.0 few.1) ∙ ap Some test.1

number_in : (digits least most : ℕ) (text : Text) → Number digits least most text → (if nat_lt digits (length text) then false else is_between least most (decimal_of text)) ≡ true
number_in digits least most text n =
    ap (λ (b : Bool). if b then false else is_between least most (decimal_of text)) (not_less digits (length text) n.is.few)
    ∙ (ap (is_between least most) (number_read digits text n.number n.is) ∙ ap₂ (λ (a b : Bool). if a then false else not b) (not_less n.number least n.low) (not_less most n.number n.high))

-- ---- a range finds no fault exactly in its numbers

in_range : (range : Range) (text : Text) (t : Bool) → (if t then None else Some (NoNumber range.option range.text text)) ≡ None → t ≡ true
in_range range text true e = refl
in_range range text false e = absurd cc

no_fault : (range : Range) (text : Text) → is_in range text ≡ true → fault_of_number range (Some text) ≡ None
no_fault range text e = ap (λ (t : Bool). if t then None else Some (NoNumber range.option range.text text)) e

pub seed_number : (text : Text) → fault_of_number seed (Some text) ≡ None → Number 20 0 18446744073709551615 text
unfolding seed
seed_number text e = number_by 20 0 18446744073709551615 text (nat_lt 20 (length text)) refl (in_range seed text (is_in seed text) e)

pub size_number : (text : Text) → fault_of_number size (Some text) ≡ None → Number 5 16 20000 text
unfolding size
size_number text e = number_by 5 16 20000 text (nat_lt 5 (length text)) refl (in_range size text (is_in size text) e)

pub number_seed : (text : Text) → Number 20 0 18446744073709551615 text → fault_of_number seed (Some text) ≡ None
unfolding seed
number_seed text n = no_fault seed text (number_in 20 0 18446744073709551615 text n)

pub number_size : (text : Text) → Number 5 16 20000 text → fault_of_number size (Some text) ≡ None
unfolding size
number_size text n = no_fault size text (number_in 5 16 20000 text n)

pub channels_number : (text : Text) → fault_of_number channels (Some text) ≡ None → Number 2 1 32 text
unfolding channels
channels_number text e = number_by 2 1 32 text (nat_lt 2 (length text)) refl (in_range channels text (is_in channels text) e)

pub number_channels : (text : Text) → Number 2 1 32 text → fault_of_number channels (Some text) ≡ None
unfolding channels
number_channels text n = no_fault channels text (number_in 2 1 32 text n)

pub chains_number : (text : Text) → fault_of_number chains (Some text) ≡ None → Number 4 1 1024 text
unfolding chains
chains_number text e = number_by 4 1 1024 text (nat_lt 4 (length text)) refl (in_range chains text (is_in chains text) e)

pub number_chains : (text : Text) → Number 4 1 1024 text → fault_of_number chains (Some text) ≡ None
unfolding chains
number_chains text n = no_fault chains text (number_in 4 1 1024 text n)

pub longest_number : (text : Text) → fault_of_number longest (Some text) ≡ None → Number 5 1 65536 text
unfolding longest
longest_number text e = number_by 5 1 65536 text (nat_lt 5 (length text)) refl (in_range longest text (is_in longest text) e)

pub number_longest : (text : Text) → Number 5 1 65536 text → fault_of_number longest (Some text) ≡ None
unfolding longest
number_longest text n = no_fault longest text (number_in 5 1 65536 text n)

pub outputs_number : (text : Text) → fault_of_number outputs (Some text) ≡ None → Number 2 1 32 text
unfolding outputs
outputs_number text e = number_by 2 1 32 text (nat_lt 2 (length text)) refl (in_range outputs text (is_in outputs text) e)

pub number_outputs : (text : Text) → Number 2 1 32 text → fault_of_number outputs (Some text) ≡ None
unfolding outputs
number_outputs text n = no_fault outputs text (number_in 2 1 32 text n)

pub masks_number : (text : Text) → fault_of_number masks (Some text) ≡ None → Number 2 1 32 text
unfolding masks
masks_number text e = number_by 2 1 32 text (nat_lt 2 (length text)) refl (in_range masks text (is_in masks text) e)

pub number_masks : (text : Text) → Number 2 1 32 text → fault_of_number masks (Some text) ≡ None
unfolding masks
number_masks text n = no_fault masks text (number_in 2 1 32 text n)

pub limit_number : (text : Text) → fault_of_number limit (Some text) ≡ None → Number 7 0 1000000 text
unfolding limit
limit_number text e = number_by 7 0 1000000 text (nat_lt 7 (length text)) refl (in_range limit text (is_in limit text) e)

pub number_limit : (text : Text) → Number 7 0 1000000 text → fault_of_number limit (Some text) ≡ None
unfolding limit
number_limit text n = no_fault limit text (number_in 7 0 1000000 text n)
