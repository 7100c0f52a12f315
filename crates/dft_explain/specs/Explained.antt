-- What a person is told of how a run ended: lines, each of pieces that are shown one behind the other.
use Rattle.std.specs.Prelude.{ℕ, ℤ, ◌-◌, ◌==◌, List, [], ◌∷◌, ◌++◌, codes, drop, flat_map, length, map, nat_lt, take, Option, None, Some, option_map, if◌then◌else◌}
use Rattle.std.specs.Fmt.{decimal, signed_decimal}
use Rattle.dft_base.specs.declared.place.Place.{Place}
use Rattle.dft_explain.specs.declared.ending.Ending.{Ending}
use Rattle.dft_explain.specs.declared.ending.Ending.TheVariants as ending
use Rattle.dft_explain.specs.declared.ending.Refusal.{Refusal}
use Rattle.dft_explain.specs.Options.{file_of, files_before, loaded, option_of, or_empty, saved, value_of}
use Rattle.dft_explain.specs.Told.{shown}

-- ---- lines

-- a line: its pieces as they are shown, and its end
abbrev pub told_line : (pieces : List (List ℕ)) → List ℕ
told_line [] = 10 ∷ []
told_line (piece ∷ pieces) = shown piece ++ told_line pieces

-- the lines of a page
abbrev pub page_of : (lines : List (List (List ℕ))) → List ℕ
page_of lines = flat_map told_line lines

-- ---- pieces

-- a text up to this many bytes
abbrev pub front : (count : ℕ) → (text : List ℕ) → List ℕ
front count text = if nat_lt count (length text) then take count text else text

-- a name or a reason has 200 bytes at most, and dots where it has more
abbrev pub cut : (text : List ℕ) → List ℕ
cut text = front 200 text

abbrev pub dots : (text : List ℕ) → List ℕ
dots text = if nat_lt 200 (length text) then codes ".." else []

-- a mark, where the text is there
abbrev pub mark : (mark : List ℕ) → (text : Option (List ℕ)) → List ℕ
mark m None = []
mark m (Some text) = m

-- a place, each number behind a colon
abbrev pub place_text : Option Place → List ℕ
place_text None = []
place_text (Some place) = codes ":" ++ (decimal place.line ++ (codes ":" ++ decimal place.column))

-- a number behind the parts before it, of which the first stands behind a colon
abbrev pub number_text : (mark : List ℕ) → Option ℤ → List ℕ
number_text m None = []
number_text m (Some number) = m ++ signed_decimal number

-- what stands before the first number
abbrev pub first_mark : (name : Option (List ℕ)) → List ℕ
first_mark None = codes ": "
first_mark (Some name) = codes " "

-- ---- patterns that do not pass

-- the signal, and what is said of it
unfoldable pub signal_pieces : (signal said : List ℕ) → List (List ℕ)
signal_pieces signal said = codes ", signal " ∷ cut signal ∷ dots signal ∷ said ∷ []

-- the file, the vector and the signal
unfoldable pub failed_line : (file : Option (List ℕ)) → (vector signal said : List ℕ) → List (List ℕ)
failed_line file vector signal said = codes "dft: " ∷ or_empty file ∷ mark (codes ": ") file ∷ codes "vector " ∷ vector ∷ signal_pieces signal said

-- a compared bit that does not pass
abbrev pub failed : (words : List (List ℕ)) → (vector : ℕ) → (signal said : List ℕ) → List (List (List ℕ))
failed words vector signal said = failed_line (value_of (codes "patterns") words) (decimal vector) signal said ∷ []

-- ---- a refusal

abbrev pub name_of : Refusal → Option (List ℕ)
name_of refusal = option_map (λ n. n.now) refusal.name

-- the code and the sentence
unfoldable pub said_pieces : Refusal → List (List ℕ)
said_pieces refusal = cut refusal.code.now ∷ codes ": " ∷ cut refusal.sentence.now ∷ dots refusal.sentence.now ∷ []

-- the name and the numbers
unfoldable pub part_pieces : (name : Option (List ℕ)) → Refusal → List (List ℕ)
part_pieces name refusal =
    mark (codes ": ") name ∷ cut (or_empty name) ∷ dots (or_empty name)
    ∷ number_text (first_mark name) refusal.first ∷ number_text (codes " ") refusal.second ∷ []

-- the file and the place, the code, the sentence, and the parts
unfoldable pub refused_line : (file : Option (List ℕ)) → (refusal : Refusal) → List (List ℕ)
refused_line file refusal =
    codes "dft: " ∷ or_empty file ∷ place_text refusal.place ∷ mark (codes ": ") file ∷ (said_pieces refusal ++ part_pieces (name_of refusal) refusal)

-- where the shown part of a line begins: of a line of more than 100 bytes, up to 60 bytes before the column are shown
abbrev pub begins_at : (column : ℕ) → (line : List ℕ) → ℕ
begins_at column line = if nat_lt 100 (length line) then column - 61 else 0

-- 100 bytes of the line at most
abbrev pub window : (column : ℕ) → (line : List ℕ) → List ℕ
window column line = front 100 (drop (begins_at column line) line)

-- a tab is shown as one blank
abbrev pub untabbed : (byte : ℕ) → ℕ
untabbed b = if b == 9 then 32 else b

-- what the window shows before the column
abbrev pub before_column : (column : ℕ) → (line : List ℕ) → List ℕ
before_column column line = front (column - 1 - begins_at column line) (window column line)

unfoldable pub text_line : (column : ℕ) → (line : List ℕ) → List (List ℕ)
text_line column line = codes "  " ∷ map untabbed (window column line) ∷ []

-- a caret stands below the column
unfoldable pub caret_line : (column : ℕ) → (line : List ℕ) → List (List ℕ)
caret_line column line = codes "  " ∷ map (λ b. 32) (before_column column line) ∷ codes "^" ∷ []

-- the line with its caret, where it has the column or ends right before it
abbrev pub line_at : (column : ℕ) → (line : List ℕ) → List (List (List ℕ))
line_at column line = if nat_lt (length line) (column - 1) then [] else text_line column line ∷ caret_line column line ∷ []

-- the line of the place, where it is there
abbrev pub lines_at : Option Place → Option (List ℕ) → List (List (List ℕ))
lines_at (Some place) (Some line) = line_at place.column line
lines_at (Some place) None = []
lines_at None line = []

unfoldable pub advice_line : (advice : List ℕ) → List (List ℕ)
advice_line advice = codes "dft: try: " ∷ cut advice ∷ dots advice ∷ []

abbrev pub refused_lines : (words : List (List ℕ)) → (refusal : Refusal) → List (List (List ℕ))
refused_lines words refusal =
    refused_line (file_of refusal.code.now (name_of refusal) words) refusal
    ∷ (lines_at refusal.place (option_map (λ l. l.now) refusal.line) ++ advice_line refusal.advice.now ∷ [])

-- ---- files that fail

-- the file of an option stands whole
abbrev pub file_text : (option : Option (List ℕ)) → (file : List ℕ) → List ℕ
file_text None file = cut file
file_text (Some option) file = file

abbrev pub file_dots : (option : Option (List ℕ)) → (file : List ℕ) → List ℕ
file_dots None file = dots file
file_dots (Some option) file = []

-- what stands behind an option, or in its place
abbrev pub closing : (option : Option (List ℕ)) → List ℕ
closing None = codes ": "
closing (Some option) = codes "): "

-- the option, and the reason
unfoldable pub option_pieces : (option : Option (List ℕ)) → (reason : List ℕ) → List (List ℕ)
option_pieces option reason = mark (codes " (--") option ∷ or_empty option ∷ closing option ∷ cut reason ∷ dots reason ∷ []

-- the file, its option and the reason
unfoldable pub fault_line : (what : List ℕ) → (option : Option (List ℕ)) → (file reason : List ℕ) → List (List ℕ)
fault_line what option file reason = what ∷ file_text option file ∷ file_dots option file ∷ option_pieces option reason

unfoldable pub saved_line : (file : List ℕ) → (files : List (List ℕ)) → List (List ℕ)
saved_line file files = codes "dft: saved before it:" ∷ file ∷ files

-- the saves before it, where there are some
abbrev pub before_line : (files : List (List ℕ)) → List (List (List ℕ))
before_line [] = []
before_line (f ∷ fs) = saved_line f fs ∷ []

abbrev pub saved_before : (option : Option (List ℕ)) → (file : List ℕ) → (words : List (List ℕ)) → List (List (List ℕ))
saved_before None file words = []
saved_before (Some option) file words = before_line (files_before file words (saved words))

abbrev pub not_loaded : (words : List (List ℕ)) → (file reason : List ℕ) → List (List (List ℕ))
not_loaded words file reason = fault_line (codes "dft: cannot load ") (option_of file words loaded) file reason ∷ []

abbrev pub not_saved : (words : List (List ℕ)) → (file reason : List ℕ) → List (List (List ℕ))
not_saved words file reason =
    fault_line (codes "dft: cannot save ") (option_of file words (saved words)) file reason ∷ saved_before (option_of file words (saved words)) file words

unfoldable pub reason_line : (what reason : List ℕ) → List (List ℕ)
reason_line what reason = what ∷ cut reason ∷ dots reason ∷ []

unfoldable pub memory_line : List (List ℕ)
memory_line = codes "dft: memory ran out" ∷ []

-- ---- how a run ended

abbrev pub explained : (words : List (List ℕ)) → Ending → List (List (List ℕ))
explained words ending.Done = []
explained words (ending.Mismatch vector signal) =
    failed words vector signal.now (codes ": in every run the opposite of what is printed")
explained words (ending.Undetermined vector signal) =
    failed words vector signal.now (codes ": not determined; the start, the order of the clocks or an unknown value may decide")
explained words (ending.Refused refusal) = refused_lines words refusal
explained words (ending.NotLoaded file reason) = not_loaded words file.now reason.now
explained words (ending.NotSaved file reason) = not_saved words file.now reason.now
explained words (ending.NotPrinted reason) = reason_line (codes "dft: cannot write standard output: ") reason.now ∷ []
explained words ending.OutOfMemory = memory_line ∷ []
explained words (ending.NoWords reason) = reason_line (codes "dft: the words of the command line cannot be had: ") reason.now ∷ []
