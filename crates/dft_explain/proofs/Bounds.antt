-- How many bytes lines, pieces and words have.
use Rattle.std.proofs.Common.{◌≡◌, ◌≤◌, ◌+◌, ◌++◌, ℕ, suc, Bool, true, false, List, [], ◌∷◌, codes, length, refl, arith, length-append}
use Rattle.std.proofs.lemmas.Bool.{ltb-false, ltb-true}
use Rattle.std.proofs.lemmas.List.{length-map, length-take-le}
use Rattle.std.specs.Prelude.{◌==◌, take, Option, None, Some, option_and_then, if◌then◌else◌, nat_lt}
use Rattle.std.specs.Str.{bytes_eq}
use Rattle.dft_explain.specs.Explained as spec
use Rattle.dft_explain.specs.Explained.{page_of, told_line}
use Rattle.dft_explain.specs.Options.{behind, behind_option, file_of, is_search, is_text, option_of, option_of_letter, or_else, or_empty, patterns_saved, report_saved, value_behind, value_of}
use Rattle.dft_explain.specs.Told.{bytes_of, clear, shown}

-- ---- lines

-- a line has the bytes of its pieces, and its end
pub line_len : (pieces : List (List ℕ)) → length (told_line pieces) ≡ bytes_of pieces + 1
line_len [] = omega arith
line_len (piece ∷ pieces) = omega (arith, length-append (shown piece) (told_line pieces), length-map piece clear, line_len pieces)

-- a page has the bytes of its lines
pub more_len : (line : List (List ℕ)) (lines : List (List (List ℕ))) → length (page_of (line ∷ lines)) ≡ bytes_of line + 1 + length (page_of lines)
more_len line lines = omega (arith, length-append (told_line line) (page_of lines), line_len line)

-- pieces behind pieces
pub bytes_both : (a b : List (List ℕ)) → bytes_of (a ++ b) ≡ bytes_of a + bytes_of b
bytes_both [] b = omega arith
bytes_both (t ∷ a) b = omega (arith, bytes_both a b)

-- pages behind pages
pub page_both : (a b : List (List (List ℕ))) → length (page_of (a ++ b)) ≡ length (page_of a) + length (page_of b)
page_both [] b = omega arith
page_both (line ∷ a) b = omega (arith, more_len line (a ++ b), more_len line a, page_both a b)

-- ---- pieces

front_by : (count : ℕ) (text : List ℕ) (t : Bool) → nat_lt count (length text) ≡ t → length (if t then take count text else text) ≤ count
front_by count text true e = omega (arith, ltb-true count (length text) e, length-take-le count text (omega (arith, ltb-true count (length text) e)))
front_by count text false e = omega (arith, ltb-false count (length text) e)

-- a front has so many bytes at most
pub front_few : (count : ℕ) (text : List ℕ) → length (spec.front count text) ≤ count
front_few count text = front_by count text (nat_lt count (length text)) refl

pub cut_few : (text : List ℕ) → length (spec.cut text) ≤ 200
cut_few text = front_few 200 text

dots_by : (t : Bool) → length (if t then codes ".." else []) ≤ 2
dots_by true = omega arith
dots_by false = omega arith

pub dots_few : (text : List ℕ) → length (spec.dots text) ≤ 2
dots_few text = dots_by (nat_lt 200 (length text))

pub mark_few : (m : List ℕ) (text : Option (List ℕ)) → length (spec.mark m text) ≤ length m
mark_few m None = omega arith
mark_few m (Some text) = omega arith

-- ---- words

kept : (t : Bool) (rest : Option (List ℕ)) (n : ℕ) → length (or_empty rest) ≤ n → length (or_empty (if t then rest else None)) ≤ suc n
kept true rest n p = omega (arith, p)
kept false rest n p = omega arith

pub behind_few : (front text : List ℕ) → length (or_empty (behind front text)) ≤ length text
behind_few [] text = omega arith
behind_few (f ∷ fs) [] = omega arith
behind_few (f ∷ fs) (t ∷ ts) = kept (f == t) (behind fs ts) (length ts) (behind_few fs ts)

then_few : (option : List ℕ) (rest : Option (List ℕ)) → length (or_empty (option_and_then (behind option) rest)) ≤ length (or_empty rest)
then_few option None = omega arith
then_few option (Some rest) = behind_few option rest

option_few : (option word : List ℕ) → length (or_empty (behind_option option word)) ≤ length word
option_few option word = omega (arith, then_few option (behind (codes "--") word), behind_few (codes "--") word)

joined_few : (t : Bool) (bs : List ℕ) → length (or_empty (if t then Some bs else None)) ≤ length bs
joined_few true bs = omega arith
joined_few false bs = omega arith

follows_few : (rest : Option (List ℕ)) (next : List (List ℕ)) → length (or_empty (value_behind rest next)) ≤ length (or_empty rest) + bytes_of next
follows_few None next = omega arith
follows_few (Some []) [] = omega arith
follows_few (Some []) (word ∷ words) = omega arith
follows_few (Some (b ∷ bs)) next = omega (arith, joined_few (b == 61) bs)

either_few : (one other : Option (List ℕ)) (n : ℕ) → length (or_empty one) ≤ n → length (or_empty other) ≤ n → length (or_empty (or_else one other)) ≤ n
either_few None other n p q = q
either_few (Some text) other n p q = p

-- a value has no more bytes than the words
pub value_few : (option : List ℕ) (words : List (List ℕ)) → length (or_empty (value_of option words)) ≤ bytes_of words
value_few option [] = omega arith
value_few option (word ∷ words) =
    either_few (value_behind (behind_option option word) words) (value_of option words) (length word + bytes_of words)
    (omega (arith, follows_few (behind_option option word) words, option_few option word)) (omega (arith, value_few option words))

pub one_of : (t : Bool) (a b : Option (List ℕ)) (n : ℕ) → length (or_empty a) ≤ n → length (or_empty b) ≤ n → length (or_empty (if t then a else b)) ≤ n
one_of true a b n p q = p
one_of false a b n p q = q

patterns_few : (words : List (List ℕ)) → length (or_empty (patterns_saved words)) ≤ bytes_of words
unfolding patterns_saved
patterns_few words = value_few (codes "out-patterns") words

report_few : (words : List (List ℕ)) → length (or_empty (report_saved words)) ≤ bytes_of words
unfolding report_saved
report_few words =
    one_of (is_search words) None _ (bytes_of words) (omega arith)
    (either_few (value_of (codes "out-report") words) (or_else (value_of (codes "report") words) (value_of (codes "out") words)) (bytes_of words) (value_few (codes "out-report") words)
    (either_few (value_of (codes "report") words) (value_of (codes "out") words) (bytes_of words) (value_few (codes "report") words) (value_few (codes "out") words)))

pub file_few : (code : List ℕ) (name : Option (List ℕ)) (words : List (List ℕ)) → length (or_empty (file_of code name words)) ≤ bytes_of words
file_few code name words =
    one_of (bytes_eq code (codes "F1")) _ _ (bytes_of words) (value_few (or_empty name) words)
    (one_of (bytes_eq code (codes "P6")) _ _ (bytes_of words) (patterns_few words)
    (one_of (bytes_eq code (codes "K6")) _ _ (bytes_of words) (report_few words) (value_few (option_of_letter code) words)))

-- ---- options

-- options have short names
abbrev pub Short : List (List ℕ) → Type 0
Short [] = Unit {0}
Short (option ∷ options) = (length option ≤ 12) × Short options

pub found_few : (file : List ℕ) (words options : List (List ℕ)) → Short options → length (or_empty (option_of file words options)) ≤ 12
found_few file words [] short = omega arith
found_few file words (option ∷ options) short = one_of (is_text file (value_of option words)) (Some option) (option_of file words options) 12 short.0 (found_few file words options short.1)
