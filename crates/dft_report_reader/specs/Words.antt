-- The words of a report's lines, and the numbers and names that they write.
use Rattle.std.specs.Prelude.{ℕ, ◌+◌, ◌-◌, ◌*◌, ◌==◌, ◌&&◌, Bool, false, List, [], ◌∷◌, length, Option, None, Some, option_and_then, nat_le, nat_lt, if◌then◌else◌}
use Rattle.std.specs.List.{slice_split}
use Rattle.dft_base.specs.Lexing.{Text}
use Rattle.dft_word_lines.specs.Lines.{is_printed_word}

-- the lines of a text; behind a last byte 10 there is one more, which is empty
abbrev pub lines_of : Text → List Text
lines_of text = slice_split (λ b. b == 10) text

-- the words of a line, between single blanks; there is one at least, and each may be empty
abbrev pub words_of : Text → List Text
words_of line = slice_split (λ b. b == 32) line

-- ---- names

-- some bytes, each printed
abbrev pub is_name : Text → Bool
is_name word = nat_lt 0 (length word) && is_printed_word word

-- ---- numbers

abbrev pub is_digit : (byte : ℕ) → Bool
is_digit b = nat_le 48 b && nat_le b 57

-- the number with one decimal digit more
abbrev pub with_digit : (value byte : ℕ) → ℕ
with_digit value b = 10 * value + (b - 48)

-- the same, where the byte is a digit and the number is below 2^32
abbrev pub next_value : (value byte : ℕ) → Option ℕ
next_value value b = if is_digit b then (if nat_lt (with_digit value b) 4294967296 then Some (with_digit value b) else None) else None

-- the number with these decimal digits more
abbrev pub value_from : (value : ℕ) → Text → Option ℕ
value_from value [] = Some value
value_from value (b ∷ word) = option_and_then (λ next. value_from next word) (next_value value b)

-- a first 0 with more behind it
abbrev pub has_leading_zero : Text → Bool
has_leading_zero [] = false
has_leading_zero (b ∷ []) = false
has_leading_zero (b ∷ c ∷ word) = b == 48

-- a decimal number below 2^32, without leading zeros
abbrev pub number_of : Text → Option ℕ
number_of [] = None
number_of (b ∷ word) = if has_leading_zero (b ∷ word) then None else value_from 0 (b ∷ word)
