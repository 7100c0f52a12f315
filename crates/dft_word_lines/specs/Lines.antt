-- Texts of lines of words: lines end at byte 10, words stand between spaces, tabs and returns, and `#` at the beginning of a word begins a comment.
use Rattle.std.specs.Prelude.{ℕ, ◌==◌, ◌||◌, Bool, true, false, List, [], ◌∷◌, ◌++◌, map, ◌-◌, ◌≤◌, ◌<◌, ◌≡◌, Option, None, Some, length, take, drop, if◌then◌else◌}
use Rattle.std.specs.List.{All, list_all}
pub use Rattle.dft_base.specs.Bytes.{is_printed}
use Rattle.dft_base.specs.Lexing.{Text}
use Rattle.dft_base.specs.declared.place.Place.{Place}
use Rattle.dft_word_lines.specs.declared.words.Span.{Span}

-- a byte before the first of these texts
abbrev pub onto_first : (byte : ℕ) → List Text → List Text
onto_first b [] = (b ∷ []) ∷ []
onto_first b (text ∷ texts) = (b ∷ text) ∷ texts

-- ---- lines

-- the lines of a text; behind a last byte 10 there is one more, which is empty
unfoldable pub lines_of : Text → List Text
lines_of [] = [] ∷ []
lines_of (b ∷ text) = if b == 10 then [] ∷ lines_of text else onto_first b (lines_of text)

-- where a line of this number begins
abbrev pub place_of_line : (number : ℕ) → Place
place_of_line number = record { line = number; column = 1 }

-- ---- words

-- tab, return and space
abbrev pub is_gap : (byte : ℕ) → Bool
is_gap b = (b == 9) || (b == 13) || (b == 32)

-- the words of what is left of a line: from within a word, whose rest is then the first, or from between words
unfoldable pub words_from : (within : Bool) → Text → List Text
words_from true [] = [] ∷ []
words_from false [] = []
words_from true (b ∷ text) = if is_gap b then [] ∷ words_from false text else onto_first b (words_from true text)
words_from false (b ∷ text) = if is_gap b then words_from false text else if b == 35 then [] else onto_first b (words_from true text)

-- the words of a line before its comment
abbrev pub words_of : Text → List Text
words_of line = words_from false line

-- whether all bytes of a word are printed, and none a blank
abbrev pub is_printed_word : Text → Bool
is_printed_word word = list_all is_printed word

-- whether all bytes of these words are printed
abbrev pub are_printed : List Text → Bool
are_printed words = list_all is_printed_word words

-- ---- words by where they stand

-- the bytes of a span
abbrev pub cut : Text → Span → Text
cut line span = take (span.end - span.start) (drop span.start line)

-- spans that lie within a line, each of some bytes
abbrev pub AreWithin : Text → List Span → Type 0
AreWithin line spans = All (λ span. (span.start < span.end) × (span.end ≤ length line)) spans

-- what stands from a place of a line on: no word, or this one, and then what stands behind it
abbrev pub IsNextWord : Text → (at : ℕ) → Option Span → Type 0
IsNextWord line at None = words_from false (drop at line) ≡ []
IsNextWord line at (Some span) =
    (words_from false (drop at line) ≡ cut line span ∷ words_from false (drop span.end line)) × (at ≤ span.start) × (span.start < span.end) × (span.end ≤ length line)

-- the words before a place of a line
pub record WordsBefore (line : Text) (at : ℕ) (spans : List Span) : Type 0 where
  pub inside : at ≤ length line
  pub words : map (cut line) spans ++ words_from false (drop at line) ≡ words_of line
  pub within : AreWithin line spans
