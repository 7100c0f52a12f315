-- Words, numbers, marks and texts in double quotes have bytes of which names are made.
use Rattle.std.proofs.Common.{zero, suc, drop, ◌==◌, ◌&&◌, true≢false, refl, ap, ◌∙◌, ◌≡◌, ℕ, ◌+◌, ◌<◌, ◌≤◌, [], ◌∷◌, length, take, Bool, true, false, cond, length-take, sym, arith}
use Rattle.std.specs.Prelude.{slice_index}
use Rattle.std.specs.List.{prefix_len}
use Rattle.std.specs.Char.{is_ascii_digit}
use Rattle.std.proofs.lemmas.Bool.Decides.{nat_tests}
use Rattle.std.proofs.lemmas.List.Sums.{prefix_len-le-length}
use Rattle.dft_base.specs.Lexing.{Text}
use Rattle.dft_base.specs.Name.{IsName}
use Rattle.dft_base.specs.Words.{begins_word}
use Rattle.dft_base.proofs.TextLemmas.{IsPrinted, printed}
use Rattle.dft_lexing.proofs.PrintedLemmas.{run_each, runs_on}
use Rattle.dft_stil_tokens.specs.Lexemes.{is_printed, is_in_number, continues_name, index_len, word_len}

continues_printed : (b : ℕ) → continues_name b ≡ true → IsPrinted b
continues_printed b e = grind (arith, nat_tests)

begins_continues : (b : ℕ) → begins_word b ≡ true → continues_name b ≡ true
begins_continues b e = grind (arith, nat_tests)

number_printed : (quoted : Bool) (b : ℕ) → is_in_number quoted b ≡ true → IsPrinted b
number_printed true b e = grind (arith, nat_tests)
number_printed false b e = grind (arith, nat_tests)

digit_in_number : (quoted : Bool) (b : ℕ) → is_ascii_digit b ≡ true → is_in_number quoted b ≡ true
digit_in_number true b e = e
digit_in_number false b e = grind (arith, nat_tests)

-- ---- numbers

-- a text that begins with a digit has a number in front
pub number_moves : (quoted : Bool) (text : Text) → 0 < length text → is_ascii_digit (slice_index text 0) ≡ true → 0 < prefix_len (is_in_number quoted) text
number_moves quoted [] some begins = absurd (omega arith)
number_moves quoted (b ∷ text) some begins = runs_on (is_in_number quoted b) (prefix_len (is_in_number quoted) text) (digit_in_number quoted b begins)

pub number_is_name : (quoted : Bool) (text : Text) → 0 < length text → is_ascii_digit (slice_index text 0) ≡ true → IsName (take (prefix_len (is_in_number quoted) text) text)
number_is_name quoted text some begins =
    let moves : 0 < prefix_len (is_in_number quoted) text = number_moves quoted text some begins in
    record {
      some = omega (arith, length-take (prefix_len (is_in_number quoted) text) text, prefix_len-le-length (is_in_number quoted) text);
      each = run_each (is_in_number quoted) (number_printed quoted) text (prefix_len (is_in_number quoted) text) (omega arith);
    }

-- ---- words

printed_is : (b : ℕ) → IsPrinted b → is_printed b ≡ true
printed_is b p = grind (arith, nat_tests)

-- one byte more, and what is printed behind
one_printed : (t u : Bool) (n b : ℕ) (text : Text) → (t ≡ true → u ≡ true) → is_printed b ≡ u → n + prefix_len is_printed (drop n text) ≤ prefix_len is_printed text
    → cond t (1 + n) 0 + prefix_len is_printed (drop (cond t (1 + n) 0) (b ∷ text)) ≤ prefix_len is_printed (b ∷ text)
one_printed true u n b text h e more =
    let full : prefix_len is_printed (b ∷ text) ≡ 1 + prefix_len is_printed text = ap (λ t. cond t (1 + prefix_len is_printed text) 0) (e ∙ h refl) in
    let step : drop (1 + n) (b ∷ text) ≡ drop n text = (let k : 1 + n ≡ suc n = omega arith in ap (λ k. drop k (b ∷ text)) k) in
    let same = ap (prefix_len is_printed) step in
    omega arith
one_printed false u n b text h e more = omega arith

-- a run, and what is printed behind it, are printed
run_printed : (text : Text) → prefix_len continues_name text + prefix_len is_printed (drop (prefix_len continues_name text) text) ≤ prefix_len is_printed text
run_printed [] = omega arith
run_printed (b ∷ text) = one_printed (continues_name b) (is_printed b) (prefix_len continues_name text) b text (λ e. printed_is b (continues_printed b e)) refl (run_printed text)

digits_printed : (text : Text) → prefix_len is_ascii_digit text + prefix_len is_printed (drop (prefix_len is_ascii_digit text) text) ≤ prefix_len is_printed text
digits_printed [] = omega arith
digits_printed (b ∷ text) = one_printed (is_ascii_digit b) (is_printed b) (prefix_len is_ascii_digit text) b text (λ e. printed_is b (number_printed true b e)) refl (digits_printed text)

bracket_printed : (text : Text) (d : ℕ) → (slice_index text d == 93) ≡ true → 1 ≤ prefix_len is_printed (drop d text)
bracket_printed [] d e = absurd (true≢false (sym e))
bracket_printed (b ∷ text) zero e = runs_on (is_printed b) (prefix_len is_printed text) (grind (arith, nat_tests))
bracket_printed (b ∷ text) (suc d) e = bracket_printed text d e

index_if : (x y w : Bool) (d m : ℕ) → (x ≡ true → w ≡ true → 2 + d ≤ m) → cond (x && y && w) (2 + d) 0 ≤ m
index_if true true true d m h = h refl refl
index_if true true false d m h = omega arith
index_if true false w d m h = omega arith
index_if false y w d m h = omega arith

index_printed : (text : Text) → index_len text ≤ prefix_len is_printed text
index_printed [] = omega arith
index_printed (b ∷ text) = index_if (b == 91) _ _ (prefix_len is_ascii_digit text) _ (λ opened closed.
    (let here : is_printed b ≡ true = grind (arith, nat_tests) in
    let full : prefix_len is_printed (b ∷ text) ≡ 1 + prefix_len is_printed text = ap (λ t. cond t (1 + prefix_len is_printed text) 0) here in
    let digits = digits_printed text in
    let end = bracket_printed text (prefix_len is_ascii_digit text) closed in
    omega arith))

word_printed : (text : Text) → word_len text ≤ prefix_len is_printed text
word_printed text = let run = run_printed text in let index = index_printed (drop (prefix_len continues_name text) text) in omega arith

-- a text that begins a word has a word in front
pub word_moves : (text : Text) → 0 < length text → begins_word (slice_index text 0) ≡ true → 0 < word_len text
word_moves [] some begins = absurd (omega arith)
word_moves (b ∷ text) some begins = let e = runs_on (continues_name b) (prefix_len continues_name text) (begins_continues b begins) in omega arith

-- ---- texts in double quotes

-- bytes that are all printed
pub quoted_name : (behind : Text) (len : ℕ) → 0 < len → len ≤ prefix_len is_printed behind → IsName (take len behind)
quoted_name behind len some full = record {
  some = omega (arith, length-take len behind, prefix_len-le-length is_printed behind);
  each = run_each is_printed printed behind len full;
}

pub word_is_name : (text : Text) → 0 < length text → begins_word (slice_index text 0) ≡ true → IsName (take (word_len text) text)
word_is_name text some begins = quoted_name text (word_len text) (word_moves text some begins) (word_printed text)

-- ---- marks

pub mark_is_name : (text : Text) → 0 < length text → is_printed (slice_index text 0) ≡ true → IsName (take 1 text)
mark_is_name [] some is = absurd (omega arith)
mark_is_name (b ∷ text) some is = quoted_name (b ∷ text) 1 (omega arith) (let e = runs_on (is_printed b) (prefix_len is_printed text) is in omega arith)

pub ruleset numbers_are_names = (number_moves, number_is_name)

pub ruleset words_are_names = (word_moves, word_is_name)

pub ruleset quoted_names = (quoted_name)

pub ruleset marks_are_names = (mark_is_name)
