-- How many bytes are told of a run.
use Rattle.std.proofs.Common.{◌≡◌, ◌<◌, ◌≤◌, ◌+◌, ◌*◌, ◌-◌, ◌^◌, ◌++◌, ℕ, ℤ, zero, suc, Bool, true, false, List, [], ◌∷◌, codes, length, refl, ap, arith, length-append}
use Rattle.std.proofs.lemmas.Bool.{ltb-true}
use Rattle.std.proofs.lemmas.Fmt.{length-decimal-le, length_signed_le}
use Rattle.std.proofs.lemmas.List.{length-map, length-take-le}
use Rattle.std.specs.Fmt.{decimal, signed_decimal}
use lib.Signed.{mag}
use Rattle.std.specs.Prelude.{drop, take, Option, None, Some, option_map, if◌then◌else◌, nat_lt}
use Rattle.std.specs.Str.{bytes_eq}
use Rattle.dft_base.proofs.TextLemmas.{same_text}
use Rattle.dft_base.specs.declared.place.Place.{Place}
use Rattle.dft_explain.specs.declared.ending.Ending.{Ending}
use Rattle.dft_explain.specs.declared.ending.Ending.TheVariants.{Done, Mismatch, Undetermined, Refused, NotLoaded, NotSaved, NotPrinted, OutOfMemory, NoWords}
use Rattle.dft_explain.specs.declared.ending.Refusal.{Refusal}
use Rattle.dft_explain.specs.Explained as spec
use Rattle.dft_explain.specs.Explained.{page_of, told_line}
use Rattle.dft_explain.specs.Options.{file_of, files_before, is_text, loaded, option_of, or_empty, saved, saved_by, value_of}
use Rattle.dft_explain.specs.Told.{bytes_of}
use Rattle.dft_explain.proofs.Bounds.{Short, bytes_both, cut_few, dots_few, file_few, found_few, front_few, mark_few, more_len, page_both, value_few}

-- ---- patterns that do not pass

signal_few : (signal said : List ℕ) → length said ≤ 100 → bytes_of (spec.signal_pieces signal said) ≤ 400
unfolding spec.signal_pieces
signal_few signal said few = omega (arith, few, cut_few signal, dots_few signal)

failed_few : (words : List (List ℕ)) (file : Option (List ℕ)) (vector signal said : List ℕ) → length (or_empty file) ≤ bytes_of words → length vector ≤ 10 → length said ≤ 100
    → bytes_of (spec.failed_line file vector signal said) ≤ 500 + bytes_of words
unfolding spec.failed_line
failed_few words file vector signal said p q r = omega (arith, p, q, mark_few (codes ": ") file, signal_few signal said r)

failed_page : (words : List (List ℕ)) (vector : ℕ) (signal said : List ℕ) → vector < 2 ^ 32 → length said ≤ 100 → length (page_of (spec.failed words vector signal said)) ≤ 4096 + 4 * bytes_of words
failed_page words vector signal said fits few =
    omega (
      arith,
      more_len (spec.failed_line (value_of (codes "patterns") words) (decimal vector) signal said) [],
      failed_few words (value_of (codes "patterns") words) (decimal vector) signal said (value_few (codes "patterns") words) (length-decimal-le 10 vector (omega arith) (omega (arith, fits)) (omega (arith, fits))) few,
    )

-- ---- a refusal

-- numbers as the code has them
abbrev pub FitsPlace : Option Place → Type 0
FitsPlace None = Unit {0}
FitsPlace (Some place) = (place.line < 2 ^ 32) × (place.column < 2 ^ 32)

abbrev pub FitsNumber : Option ℤ → Type 0
FitsNumber None = Unit {0}
FitsNumber (Some number) = mag number < 2 ^ 63

place_few : (place : Option Place) → FitsPlace place → length (spec.place_text place) ≤ 22
place_few None fits = omega arith
place_few (Some place) fits =
    omega (
      arith,
      length-append (codes ":") (decimal place.line ++ (codes ":" ++ decimal place.column)),
      length-append (decimal place.line) (codes ":" ++ decimal place.column),
      length-append (codes ":") (decimal place.column),
      length-decimal-le 10 place.line (omega arith) (omega (arith, fits.0)) (omega (arith, fits.0)),
      length-decimal-le 10 place.column (omega arith) (omega (arith, fits.1)) (omega (arith, fits.1)),
    )

signed_few : (z : ℤ) → mag z < 2 ^ 63 → length (signed_decimal z) ≤ 21
signed_few z fits = length_signed_le 20 z (omega (arith, fits)) fits

number_few : (m : List ℕ) (number : Option ℤ) → length m ≤ 2 → FitsNumber number → length (spec.number_text m number) ≤ 23
number_few m None few fits = omega arith
number_few m (Some number) few fits = omega (arith, few, length-append m (signed_decimal number), signed_few number fits)

first_few : (name : Option (List ℕ)) → length (spec.first_mark name) ≤ 2
first_few None = omega arith
first_few (Some name) = omega arith

pub record FitsRefusal (refusal : Refusal) : Type 0 where
  pub place : FitsPlace refusal.place
  pub first : FitsNumber refusal.first
  pub second : FitsNumber refusal.second

parts_few : (name : Option (List ℕ)) (refusal : Refusal) → FitsRefusal refusal → bytes_of (spec.part_pieces name refusal) ≤ 260
unfolding spec.part_pieces
parts_few name refusal fits =
    omega (arith, mark_few (codes ": ") name, cut_few (or_empty name), dots_few (or_empty name), number_few (spec.first_mark name) refusal.first (first_few name) fits.first, number_few (codes " ") refusal.second (omega arith) fits.second)

said_few : (refusal : Refusal) → bytes_of (spec.said_pieces refusal) ≤ 410
unfolding spec.said_pieces
said_few refusal = omega (arith, cut_few refusal.code.now, cut_few refusal.sentence.now, dots_few refusal.sentence.now)

refused_few : (words : List (List ℕ)) (file : Option (List ℕ)) (refusal : Refusal) → FitsRefusal refusal → length (or_empty file) ≤ bytes_of words → bytes_of (spec.refused_line file refusal) ≤ 800 + bytes_of words
unfolding spec.refused_line
refused_few words file refusal fits few =
    omega (arith, few, place_few refusal.place fits.place, mark_few (codes ": ") file, bytes_both (spec.said_pieces refusal) (spec.part_pieces (spec.name_of refusal) refusal), said_few refusal, parts_few (spec.name_of refusal) refusal fits)

advice_few : (advice : List ℕ) → bytes_of (spec.advice_line advice) ≤ 220
unfolding spec.advice_line
advice_few advice = omega (arith, cut_few advice, dots_few advice)

window_few : (column : ℕ) (line : List ℕ) → length (spec.window column line) ≤ 100
window_few column line = front_few 100 (drop (spec.begins_at column line) line)

text_few : (column : ℕ) (line : List ℕ) → bytes_of (spec.text_line column line) ≤ 102
unfolding spec.text_line
text_few column line = omega (arith, length-map (spec.window column line) spec.untabbed, window_few column line)

shorter : (count : ℕ) (text : List ℕ) (t : Bool) → nat_lt count (length text) ≡ t → length (if t then take count text else text) ≤ length text
shorter count text true e = omega (arith, ltb-true count (length text) e, length-take-le count text (omega (arith, ltb-true count (length text) e)))
shorter count text false e = omega arith

before_few : (column : ℕ) (line : List ℕ) → length (spec.before_column column line) ≤ 100
before_few column line =
    omega (arith, window_few column line, shorter (column - 1 - spec.begins_at column line) (spec.window column line) _ refl)

caret_few : (column : ℕ) (line : List ℕ) → bytes_of (spec.caret_line column line) ≤ 103
unfolding spec.caret_line
caret_few column line = omega (arith, length-map {B = ℕ} (spec.before_column column line) (λ b. 32), before_few column line)

two_lines : (a b : List (List ℕ)) → bytes_of a ≤ 103 → bytes_of b ≤ 103 → length (page_of (a ∷ b ∷ [])) ≤ 208
two_lines a b p q = omega (arith, p, q, more_len a (b ∷ []), more_len b [])

none_or : (t : Bool) (a b : List (List ℕ)) → bytes_of a ≤ 103 → bytes_of b ≤ 103 → length (page_of (if t then [] else a ∷ b ∷ [])) ≤ 208
none_or true a b p q = omega arith
none_or false a b p q = two_lines a b p q

at_few : (place : Option Place) (line : Option (List ℕ)) → length (page_of (spec.lines_at place line)) ≤ 208
at_few (Some place) (Some line) =
    none_or (nat_lt (length line) (place.column - 1)) (spec.text_line place.column line) (spec.caret_line place.column line) (omega (arith, text_few place.column line)) (caret_few place.column line)
at_few (Some place) None = omega arith
at_few None line = omega arith

refused_page : (words : List (List ℕ)) (refusal : Refusal) → FitsRefusal refusal → length (page_of (spec.refused_lines words refusal)) ≤ 4096 + 4 * bytes_of words
refused_page words refusal fits =
    let file = file_of refusal.code.now (spec.name_of refusal) words in
    let lines = spec.lines_at refusal.place (option_map (λ l. l.now) refusal.line) in
    let advice = spec.advice_line refusal.advice.now in
    omega (
      arith,
      more_len (spec.refused_line file refusal) (lines ++ advice ∷ []),
      page_both lines (advice ∷ []),
      more_len advice [],
      refused_few words file refusal fits (file_few refusal.code.now (spec.name_of refusal) words),
      at_few refusal.place (option_map (λ l. l.now) refusal.line),
      advice_few refusal.advice.now,
    )

-- ---- files that fail

is_value : (file : List ℕ) (value : Option (List ℕ)) → is_text file value ≡ true → length file ≤ length (or_empty value)
is_value file None e = absurd cc
is_value file (Some value) e = omega (arith, ap length (same_text value file e))

whole_by : (file : List ℕ) (words : List (List ℕ)) (option : List ℕ) (other : Option (List ℕ)) (t : Bool) → is_text file (value_of option words) ≡ t
    → length (spec.file_text other file) ≤ 200 + bytes_of words → length (spec.file_text (if t then Some option else other) file) ≤ 200 + bytes_of words
whole_by file words option other true e few = omega (arith, is_value file (value_of option words) e, value_few option words)
whole_by file words option other false e few = few

-- a file of an option is one of the words
whole_few : (file : List ℕ) (words options : List (List ℕ)) → length (spec.file_text (option_of file words options) file) ≤ 200 + bytes_of words
whole_few file words [] = omega (arith, cut_few file)
whole_few file words (option ∷ options) = whole_by file words option (option_of file words options) (is_text file (value_of option words)) refl (whole_few file words options)

behind_file_few : (option : Option (List ℕ)) (file : List ℕ) → length (spec.file_dots option file) ≤ 2
behind_file_few None file = dots_few file
behind_file_few (Some option) file = omega arith

closing_few : (option : Option (List ℕ)) → length (spec.closing option) ≤ 3
closing_few None = omega arith
closing_few (Some option) = omega arith

reason_few : (option : Option (List ℕ)) (reason : List ℕ) → length (or_empty option) ≤ 12 → bytes_of (spec.option_pieces option reason) ≤ 230
unfolding spec.option_pieces
reason_few option reason few = omega (arith, few, mark_few (codes " (--") option, closing_few option, cut_few reason, dots_few reason)

fault_few : (what file reason : List ℕ) (words options : List (List ℕ)) → length what ≤ 20 → Short options → bytes_of (spec.fault_line what (option_of file words options) file reason) ≤ 500 + bytes_of words
unfolding spec.fault_line
fault_few what file reason words options few short =
    omega (arith, few, whole_few file words options, behind_file_few (option_of file words options) file, reason_few (option_of file words options) reason (found_few file words options short))

loaded_page : (words : List (List ℕ)) (file reason : List ℕ) → length (page_of (spec.not_loaded words file reason)) ≤ 4096 + 4 * bytes_of words
loaded_page words file reason =
    let line = spec.fault_line (codes "dft: cannot load ") (option_of file words loaded) file reason in
    omega (arith, more_len line [], fault_few (codes "dft: cannot load ") file reason words loaded (omega arith) (omega arith, (omega arith, (omega arith, (omega arith, (omega arith, (omega arith, tt)))))))

-- at most three files are saved
record Few (options : List (List ℕ)) : Type 0 where
  short : Short options
  three : length options ≤ 3

few_by : (a b c d e : Bool)
    → Few (if a then codes "out" ∷ codes "report" ∷ []
    else (if b then codes "out-netlist" ∷ codes "out-patterns" ∷ codes "out-report" ∷ []
    else (if c then codes "out" ∷ [] else (if d then codes "out" ∷ [] else (if e then codes "out-cubes" ∷ codes "out-report" ∷ [] else [])))))
few_by true b c d e = record { short = (omega arith, (omega arith, tt)); three = omega arith }
few_by false true c d e = record { short = (omega arith, (omega arith, (omega arith, tt))); three = omega arith }
few_by false false true d e = record { short = (omega arith, tt); three = omega arith }
few_by false false false true e = record { short = (omega arith, tt); three = omega arith }
few_by false false false false true = record { short = (omega arith, (omega arith, tt)); three = omega arith }
few_by false false false false false = record { short = tt; three = omega arith }

few_saved : (words : List (List ℕ)) → Few (saved words)
unfolding saved_by
few_saved [] = record { short = tt; three = omega arith }
few_saved (command ∷ words) = few_by (bytes_eq command (codes "scan")) (bytes_eq command (codes "compile")) (bytes_eq command (codes "grade")) (bytes_eq command (codes "configure"))
    (bytes_eq command (codes "seek"))

files_by : (t : Bool) (files : List (List ℕ)) (n : ℕ) → bytes_of files ≤ n → bytes_of (if t then [] else files) ≤ n
files_by true files n p = omega arith
files_by false files n p = p

-- each file before has a blank, and no more bytes than the words
files_few : (file : List ℕ) (words options : List (List ℕ)) → bytes_of (files_before file words options) ≤ length options * (1 + bytes_of words)
files_few file words [] = omega arith
files_few file words (option ∷ options) =
    files_by (is_text file (value_of option words)) (codes " " ∷ or_empty (value_of option words) ∷ files_before file words options) _ (omega (arith, value_few option words, files_few file words options))

three_times : (k n : ℕ) → k ≤ 3 → k * n ≤ 3 * n
three_times zero n p = omega arith
three_times (suc zero) n p = omega arith
three_times (suc (suc zero)) n p = omega arith
three_times (suc (suc (suc zero))) n p = omega arith
three_times (suc (suc (suc (suc k)))) n p = absurd (omega (arith, p))

saved_line_few : (file : List ℕ) (files : List (List ℕ)) → bytes_of (spec.saved_line file files) ≤ 25 + bytes_of (file ∷ files)
unfolding spec.saved_line
saved_line_few file files = omega arith

before_line_few : (files : List (List ℕ)) → length (page_of (spec.before_line files)) ≤ 30 + bytes_of files
before_line_few [] = omega arith
before_line_few (f ∷ fs) = omega (arith, more_len (spec.saved_line f fs) [], saved_line_few f fs)

saved_few : (option : Option (List ℕ)) (file : List ℕ) (words : List (List ℕ)) → length (page_of (spec.saved_before option file words)) ≤ 40 + 3 * bytes_of words
saved_few None file words = omega arith
saved_few (Some option) file words =
    omega (arith, before_line_few (files_before file words (saved words)), files_few file words (saved words), three_times (length (saved words)) (1 + bytes_of words) (few_saved words).three)

saved_page : (words : List (List ℕ)) (file reason : List ℕ) → length (page_of (spec.not_saved words file reason)) ≤ 4096 + 4 * bytes_of words
saved_page words file reason =
    let option = option_of file words (saved words) in
    omega (
      arith,
      more_len (spec.fault_line (codes "dft: cannot save ") option file reason) (spec.saved_before option file words),
      fault_few (codes "dft: cannot save ") file reason words (saved words) (omega arith) (few_saved words).short,
      saved_few option file words,
    )

reason_page : (what reason : List ℕ) (words : List (List ℕ)) → length what ≤ 100 → length (page_of (spec.reason_line what reason ∷ [])) ≤ 4096 + 4 * bytes_of words
unfolding spec.reason_line
reason_page what reason words few = omega (arith, few, more_len (what ∷ spec.cut reason ∷ spec.dots reason ∷ []) [], cut_few reason, dots_few reason)

memory_page : (words : List (List ℕ)) → length (page_of (spec.memory_line ∷ [])) ≤ 4096 + 4 * bytes_of words
unfolding spec.memory_line
memory_page words = omega (arith, more_len (codes "dft: memory ran out" ∷ []) [])

-- ---- how a run ended

abbrev pub Fits : Ending → Type 0
Fits Done = Unit {0}
Fits (Mismatch vector signal) = vector < 2 ^ 32
Fits (Undetermined vector signal) = vector < 2 ^ 32
Fits (Refused refusal) = FitsRefusal refusal
Fits (NotLoaded file reason) = Unit {0}
Fits (NotSaved file reason) = Unit {0}
Fits (NotPrinted reason) = Unit {0}
Fits OutOfMemory = Unit {0}
Fits (NoWords reason) = Unit {0}

-- what is told of a run has 4,096 bytes and four times those of the words at most
pub few_bytes : (words : List (List ℕ)) (ending : Ending) → Fits ending → length (page_of (spec.explained words ending)) ≤ 4096 + 4 * bytes_of words
few_bytes words Done fits = omega arith
few_bytes words (Mismatch vector signal) fits = failed_page words vector signal.now (codes ": in every run the opposite of what is printed") fits (omega arith)
few_bytes words (Undetermined vector signal) fits =
    failed_page words vector signal.now (codes ": not determined; the start, the order of the clocks or an unknown value may decide") fits (omega arith)
few_bytes words (Refused refusal) fits = refused_page words refusal fits
few_bytes words (NotLoaded file reason) fits = loaded_page words file.now reason.now
few_bytes words (NotSaved file reason) fits = saved_page words file.now reason.now
few_bytes words (NotPrinted reason) fits = reason_page (codes "dft: cannot write standard output: ") reason.now words (omega arith)
few_bytes words OutOfMemory fits = memory_page words
few_bytes words (NoWords reason) fits = reason_page (codes "dft: the words of the command line cannot be had: ") reason.now words (omega arith)
