-- How much is told of words that are no command.
use Rattle.std.proofs.Common.{◌≡◌, ◌≤◌, ◌+◌, ◌*◌, ◌++◌, ℕ, Bool, true, false, List, [], ◌∷◌, codes, length, arith}
use Rattle.std.proofs.lemmas.List.{length-take}
use Rattle.std.specs.List.{prefix_len}
use Rattle.std.specs.Prelude.{◌==◌, take, Option, None, Some, option_and_then, if◌then◌else◌}
use Rattle.std.specs.Str.{bytes_eq}
use Rattle.dft_explain.proofs.Bounds.{Short, behind_few, found_few, more_len, page_both, value_few}
use Rattle.dft_explain.proofs.Ends.{each}
use Rattle.dft_explain.specs.Explained.{page_of}
use Rattle.dft_explain.specs.FaultLines.{any_form_line, command_line, count_of, fault_line, fault_lines, files_line, form_line, line_of, lines_of, lines_of_command, lines_of_form, lines_without_form, number_line, option_line, option_pieces, pair_line, pair_pieces, second_pieces}
use Rattle.dft_explain.specs.Faults.{Fault, NoCommand, NoSuchCommand, Unexpected, NoOption, Twice, NoValue, EmptyValue, Missing, NotOne, NoNumber, OneFile, Form, Pair, Range, Text, by_value, certify_form, chains, channels, compile_form, configure_form, fault_of_both, fault_of_command, fault_of_first, fault_of_named, fault_of_number, fault_of_option, fault_of_options, fault_of_output, fault_of_right_options, fault_of_value, fault_where_none, first_fault, form_of, further_form, generate_form, grade_form, has, is_among, is_in, is_of_name, limit, longest, masks, missing, name_in, named, names_with, no_number, not_one, one_file, or_else, outputs, replay_form, scan_form, seed, seek_form, size, value_from, joined_in, wrong_option}
use Rattle.dft_explain.specs.Options.{behind, option_of, or_empty, value_of}
use Rattle.dft_explain.specs.Told.{bytes_of, ends_of}

-- ---- lines

found_count : (command : Text) (fault : Option Fault) (line : List Text) → length (lines_of command fault ++ line ∷ []) ≡ count_of fault
found_count command None line = omega arith
found_count command (Some fault) line = omega arith

command_count : (name : Text) (form : Option Form) (words : List Text) → length (lines_of_command name form words) ≡ count_of (fault_of_command name form words)
command_count name None words = omega arith
command_count name (Some form) words = found_count form.name (fault_of_options form words) (form_line form)

count : (words : List Text) → length (fault_lines words) ≡ count_of (first_fault words)
count [] = omega arith
count (name ∷ words) = command_count name (form_of name) words

-- what is told of words has one line where there is no fault, and else two
pub lines_told : (words : List Text) → ends_of (page_of (fault_lines words)) ≡ count_of (first_fault words)
lines_told words = omega (arith, each (fault_lines words), count words)

-- ---- the texts of a fault

-- texts of words have no more bytes than so many, and options have short names
abbrev Within : (n : ℕ) → Fault → Type 0
Within n NoCommand = Unit {0}
Within n (NoSuchCommand word) = length word ≤ n
Within n (Unexpected word) = length word ≤ n
Within n (NoOption option) = length option ≤ n
Within n (Twice option) = length option ≤ n
Within n (NoValue option) = length option ≤ n
Within n (EmptyValue option) = length option ≤ n
Within n (Missing option) = length option ≤ 12
Within n (NotOne first second) = (length first ≤ 12) × (length second ≤ 12)
Within n (NoNumber option range value) = (length option ≤ 12) × ((length range ≤ 30) × (length value ≤ n))
Within n (OneFile first second file) = (length first ≤ 12) × ((length second ≤ 12) × (length file ≤ n))

abbrev WithinAny : (n : ℕ) → Option Fault → Type 0
WithinAny n None = Unit {0}
WithinAny n (Some fault) = Within n fault

either : (n : ℕ) (one other : Option Fault) → WithinAny n one → WithinAny n other → WithinAny n (or_else one other)
either n None other p q = q
either n (Some fault) other p q = p

if_within : (n : ℕ) (t : Bool) (one other : Option Fault) → WithinAny n one → WithinAny n other → WithinAny n (if t then one else other)
if_within n true one other p q = p
if_within n false one other p q = q

-- ---- one option

named_by : (t : Bool) (text : Text) (k : ℕ) → length (or_empty (if t then None else Some (take k text))) ≤ length text
named_by true text k = omega arith
named_by false text k = omega (arith, length-take k text)

then_named : (text : Option Text) → length (or_empty (option_and_then named text)) ≤ length (or_empty text)
then_named None = omega arith
then_named (Some text) = named_by (prefix_len is_of_name text == 0) text (prefix_len is_of_name text)

name_few : (word : Text) → length (or_empty (name_in word)) ≤ length word
name_few word = omega (arith, then_named (behind (codes "--") word), behind_few (codes "--") word)

of_value : (n : ℕ) (name : Text) (value : Option Text) → length name ≤ n → WithinAny n (fault_of_value name value)
of_value n name None few = few
of_value n name (Some []) few = few
of_value n name (Some (b ∷ bs)) few = tt

of_named : (n : ℕ) (form : Form) (before : List Text) (word : Text) (name value : Option Text) → length word ≤ n → length (or_empty name) ≤ n → WithinAny n (fault_of_named form before word name value)
of_named n form before word None value p q = p
of_named n form before word (Some name) value p q =
    if_within n (has form name) (if is_among name before then Some (Twice name) else fault_of_value name value) (Some (NoOption name)) (if_within n (is_among name before) (Some (Twice name)) (fault_of_value name value) q (of_value n name value q)) q

of_option : (n : ℕ) (form : Form) (before : List Text) (word : Text) (next : List Text) → length word ≤ n → WithinAny n (fault_of_option form before word next)
of_option n form before word next few = of_named n form before word (name_in word) (value_from (joined_in word) next) few (omega (arith, few, name_few word))

by_either : (n : ℕ) (joined : Option Text) (one other : Option Fault) → WithinAny n one → WithinAny n other → WithinAny n (by_value joined one other)
by_either n None one other p q = q
by_either n (Some value) one other p q = p

of_wrong : (n : ℕ) (form : Form) (before words : List Text) → bytes_of words ≤ n → WithinAny n (wrong_option form before words)
of_wrong n form before [] few = tt
of_wrong n form before (word ∷ []) few = of_option n form before word [] (omega (arith, few))
of_wrong n form before (word ∷ next ∷ words) few =
    let behind_it = names_with before (name_in word) in
    either n (fault_of_option form before word (next ∷ words)) (by_value (joined_in word) (wrong_option form behind_it (next ∷ words)) (wrong_option form behind_it words)) (of_option n form before word (next ∷ words) (omega (arith, few)))
    (by_either n (joined_in word) (wrong_option form behind_it (next ∷ words)) (wrong_option form behind_it words) (of_wrong n form behind_it (next ∷ words) (omega (arith, few))) (of_wrong n form behind_it words (omega (arith, few))))

-- ---- all options

where_none : (n : ℕ) (option : Text) (value : Option Text) → length option ≤ 12 → WithinAny n (fault_where_none option value)
where_none n option None short = short
where_none n option (Some value) short = tt

of_missing : (n : ℕ) (options words : List Text) → Short options → WithinAny n (missing options words)
of_missing n [] words short = tt
of_missing n (option ∷ options) words short =
    either n (fault_where_none option (value_of option words)) (missing options words) (where_none n option (value_of option words) short.0) (of_missing n options words short.1)

of_number : (n : ℕ) (range : Range) (value : Option Text) → length range.option ≤ 12 → length range.text ≤ 30 → length (or_empty value) ≤ n → WithinAny n (fault_of_number range value)
of_number n range None p q r = tt
of_number n range (Some value) p q r = if_within n (is_in range value) None (Some (NoNumber range.option range.text value)) tt (p, (q, r))

-- a range is told in few bytes
abbrev IsFewRange : Range → Type 0
IsFewRange range = (length range.option ≤ 12) × (length range.text ≤ 30)

abbrev AreFewRanges : List Range → Type 0
AreFewRanges [] = Unit {0}
AreFewRanges (range ∷ ranges) = IsFewRange range × AreFewRanges ranges

seed_short : IsFewRange seed
unfolding seed
seed_short = (omega arith, omega arith)

size_short : IsFewRange size
unfolding size
size_short = (omega arith, omega arith)

channels_short : IsFewRange channels
unfolding channels
channels_short = (omega arith, omega arith)

chains_short : IsFewRange chains
unfolding chains
chains_short = (omega arith, omega arith)

longest_short : IsFewRange longest
unfolding longest
longest_short = (omega arith, omega arith)

outputs_short : IsFewRange outputs
unfolding outputs
outputs_short = (omega arith, omega arith)

masks_short : IsFewRange masks
unfolding masks
masks_short = (omega arith, omega arith)

limit_short : IsFewRange limit
unfolding limit
limit_short = (omega arith, omega arith)

of_numbers : (ranges : List Range) (words : List Text) → AreFewRanges ranges → WithinAny (bytes_of words) (no_number ranges words)
of_numbers [] words short = tt
of_numbers (range ∷ ranges) words short =
    either (bytes_of words) (fault_of_number range (value_of range.option words)) (no_number ranges words)
    (of_number (bytes_of words) range (value_of range.option words) short.0.0 short.0.1 (value_few range.option words)) (of_numbers ranges words short.1)

abbrev IsFewPair : Option Pair → Type 0
IsFewPair None = Unit {0}
IsFewPair (Some pair) = (length pair.first ≤ 12) × (length pair.second ≤ 12)

of_both : (n : ℕ) (pair : Pair) (one other : Option Text) → IsFewPair (Some pair) → WithinAny n (fault_of_both pair one other)
of_both n pair (Some one) None short = tt
of_both n pair None (Some other) short = tt
of_both n pair (Some one) (Some other) short = short
of_both n pair None None short = short

of_pair : (n : ℕ) (pair : Option Pair) (words : List Text) → IsFewPair pair → WithinAny n (not_one pair words)
of_pair n None words short = tt
of_pair n (Some pair) words short = of_both n pair (value_of pair.first words) (value_of pair.second words) short

of_first : (n : ℕ) (first : Option Text) (second file : Text) → length (or_empty first) ≤ 12 → length second ≤ 12 → length file ≤ n → WithinAny n (fault_of_first first second file)
of_first n None second file p q r = tt
of_first n (Some first) second file p q r = if_within n (bytes_eq first second) None (Some (OneFile first second file)) tt (p, (q, r))

of_output : (n : ℕ) (saved words : List Text) (second : Text) (file : Option Text) → Short saved → length second ≤ 12 → length (or_empty file) ≤ n → WithinAny n (fault_of_output saved words second file)
of_output n saved words second None short q r = tt
of_output n saved words second (Some file) short q r = of_first n (option_of file words saved) second file (found_few file words saved short) q r

of_outputs : (saved words outputs : List Text) → Short saved → Short outputs → WithinAny (bytes_of words) (one_file saved words outputs)
of_outputs saved words [] short q = tt
of_outputs saved words (second ∷ outputs) short q =
    either (bytes_of words) (fault_of_output saved words second (value_of second words)) (one_file saved words outputs)
    (of_output (bytes_of words) saved words second (value_of second words) short q.0 (value_few second words)) (of_outputs saved words outputs short q.1)

-- ---- forms

-- a form of short names, and of few bytes where it is told
record IsShort (form : Form) : Type 0 where
  name : length form.name ≤ 12
  needed : Short form.needed
  pair : IsFewPair form.pair
  numbers : AreFewRanges form.numbers
  saved : Short form.saved
  told : bytes_of (form_line form) ≤ 300

replay_told : bytes_of (form_line replay_form) ≤ 300
unfolding form_line option_pieces
replay_told = omega arith

scan_told : bytes_of (form_line scan_form) ≤ 300
unfolding form_line option_pieces
scan_told = omega arith

compile_told : bytes_of (form_line compile_form) ≤ 300
unfolding form_line option_pieces
compile_told = omega arith

certify_told : bytes_of (form_line certify_form) ≤ 300
unfolding form_line option_pieces
certify_told = omega arith

generate_told : bytes_of (form_line generate_form) ≤ 300
unfolding form_line option_pieces
generate_told = omega arith

grade_told : bytes_of (form_line grade_form) ≤ 300
unfolding form_line option_pieces
grade_told = omega arith

configure_told : bytes_of (form_line configure_form) ≤ 300
unfolding form_line option_pieces
configure_told = omega arith

seek_told : bytes_of (form_line seek_form) ≤ 300
unfolding form_line option_pieces
seek_told = omega arith

abbrev AnyShort : Option Form → Type 0
AnyShort None = Unit {0}
AnyShort (Some form) = IsShort form

further_by : (a b c d : Bool) → AnyShort (if a then Some generate_form else (if b then Some grade_form else (if c then Some configure_form else (if d then Some seek_form else None))))
further_by true b c d = record { name = omega arith; needed = (omega arith, (omega arith, tt)); pair = tt; numbers = (seed_short, (size_short, tt)); saved = tt; told = generate_told }
further_by false true c d = record { name = omega arith; needed = (omega arith, (omega arith, (omega arith, tt))); pair = tt; numbers = tt; saved = (omega arith, tt); told = grade_told }
further_by false false true d = record {
  name = omega arith;
  needed = (omega arith, (omega arith, (omega arith, tt)));
  pair = (omega arith, omega arith);
  numbers = (channels_short, (chains_short, (longest_short, (outputs_short, (masks_short, tt)))));
  saved = (omega arith, tt);
  told = configure_told;
}
further_by false false false true = record {
  name = omega arith;
  needed = (omega arith, (omega arith, (omega arith, (omega arith, (omega arith, (omega arith, tt))))));
  pair = tt;
  numbers = (limit_short, tt);
  saved = (omega arith, (omega arith, tt));
  told = seek_told;
}
further_by false false false false = tt

short_by : (a b c d : Bool) (other : Option Form) → AnyShort other → AnyShort (if a then Some replay_form else (if b then Some scan_form else (if c then Some compile_form else (if d then Some certify_form else other))))
short_by true b c d other short = record { name = omega arith; needed = (omega arith, (omega arith, tt)); pair = tt; numbers = tt; saved = tt; told = replay_told }
short_by false true c d other short =
    record { name = omega arith; needed = (omega arith, (omega arith, (omega arith, (omega arith, tt)))); pair = tt; numbers = tt; saved = (omega arith, (omega arith, tt)); told = scan_told }
short_by false false true d other short = record {
  name = omega arith;
  needed = (omega arith, (omega arith, (omega arith, (omega arith, (omega arith, (omega arith, tt))))));
  pair = tt;
  numbers = tt;
  saved = (omega arith, (omega arith, (omega arith, tt)));
  told = compile_told;
}
short_by false false false true other short = record { name = omega arith; needed = (omega arith, (omega arith, (omega arith, (omega arith, tt)))); pair = tt; numbers = tt; saved = tt; told = certify_told }
short_by false false false false other short = short

short_of : (name : Text) → AnyShort (form_of name)
short_of name =
    short_by (bytes_eq name (codes "replay")) (bytes_eq name (codes "scan")) (bytes_eq name (codes "compile")) (bytes_eq name (codes "certify")) (further_form name)
    (further_by (bytes_eq name (codes "generate")) (bytes_eq name (codes "grade")) (bytes_eq name (codes "configure")) (bytes_eq name (codes "seek")))

of_options : (form : Form) (words : List Text) → IsShort form → WithinAny (bytes_of words) (fault_of_options form words)
of_options form words short =
    let n = bytes_of words in
    either n (wrong_option form [] words) (fault_of_right_options form words) (of_wrong n form [] words (omega arith))
    (either n (missing form.needed words) (or_else (not_one form.pair words) (or_else (no_number form.numbers words) (one_file form.saved words form.saved))) (of_missing n form.needed words short.needed)
    (either n (not_one form.pair words) (or_else (no_number form.numbers words) (one_file form.saved words form.saved)) (of_pair n form.pair words short.pair)
    (either n (no_number form.numbers words) (one_file form.saved words form.saved) (of_numbers form.numbers words short.numbers) (of_outputs form.saved words form.saved short.saved short.saved))))

-- ---- bytes

word_few : (what text : Text) → bytes_of (line_of what text) ≤ length what + length text
unfolding line_of
word_few what text = omega arith

option_few : (option text : Text) → bytes_of (option_line option text) ≤ 10 + length option + length text
unfolding option_line
option_few option text = omega arith

command_few : (command text option : Text) → bytes_of (command_line command text option) ≤ 10 + length command + length text + length option
unfolding command_line
command_few command text option = omega arith

number_few : (option range value : Text) → bytes_of (number_line option range value) ≤ 40 + length option + length range + length value
unfolding number_line
number_few option range value = omega arith

pair_few : (command first second : Text) → bytes_of (pair_line command first second) ≤ 50 + length command + length first + length second
unfolding pair_line pair_pieces
pair_few command first second = omega arith

files_few : (first second file : Text) → bytes_of (files_line first second file) ≤ 40 + length first + length second + length file
unfolding files_line second_pieces
files_few first second file = omega arith

-- a fault in a line
told_few : (n : ℕ) (command : Text) (fault : Fault) → length command ≤ 12 → Within n fault → bytes_of (fault_line command fault) ≤ 200 + n
told_few n command NoCommand short fits = omega (arith, word_few (codes "dft: no command") [])
told_few n command (NoSuchCommand word) short fits = omega (arith, fits, word_few (codes "dft: no such command: ") word)
told_few n command (Unexpected word) short fits = omega (arith, fits, word_few (codes "dft: unexpected word: ") word)
told_few n command (NoOption option) short fits = omega (arith, short, fits, command_few command (codes " has no option --") option)
told_few n command (Twice option) short fits = omega (arith, fits, option_few option (codes " stands twice"))
told_few n command (NoValue option) short fits = omega (arith, fits, option_few option (codes " has no value"))
told_few n command (EmptyValue option) short fits = omega (arith, fits, option_few option (codes " has an empty value"))
told_few n command (Missing option) short fits = omega (arith, short, fits, command_few command (codes " needs --") option)
told_few n command (NotOne first second) short fits = omega (arith, short, fits.0, fits.1, pair_few command first second)
told_few n command (NoNumber option range value) short fits = omega (arith, fits.0, fits.1.0, fits.1.1, number_few option range value)
told_few n command (OneFile first second file) short fits = omega (arith, fits.0, fits.1.0, fits.1.1, files_few first second file)

found_page : (n : ℕ) (command : Text) (fault : Option Fault) → length command ≤ 12 → WithinAny n fault → length (page_of (lines_of command fault)) ≤ 210 + n
found_page n command None short fits = omega arith
found_page n command (Some fault) short fits = omega (arith, more_len (fault_line command fault) [], told_few n command fault short fits)

any_few : bytes_of any_form_line ≤ 100
unfolding any_form_line
any_few = omega arith

without_page : (n : ℕ) (fault : Fault) → Within n fault → length (page_of (lines_without_form fault)) ≤ 400 + n
without_page n fault fits = omega (arith, more_len (fault_line [] fault) (any_form_line ∷ []), more_len any_form_line [], any_few, told_few n [] fault (omega arith) fits)

form_page : (form : Form) (words : List Text) → IsShort form → length (page_of (lines_of_form form words)) ≤ 600 + bytes_of words
form_page form words short =
    omega (
      arith,
      page_both (lines_of form.name (fault_of_options form words)) (form_line form ∷ []),
      more_len (form_line form) [],
      short.told,
      found_page (bytes_of words) form.name (fault_of_options form words) short.name (of_options form words short),
    )

command_page : (name : Text) (form : Option Form) (words : List Text) → AnyShort form → length (page_of (lines_of_command name form words)) ≤ 600 + (length name + bytes_of words)
command_page name None words short = omega (arith, without_page (length name) (NoSuchCommand name) (omega arith))
command_page name (Some form) words short = omega (arith, form_page form words short)

-- what is told of words has 4,096 bytes and four times those of the words at most
pub few_bytes : (words : List Text) → length (page_of (fault_lines words)) ≤ 4096 + 4 * bytes_of words
few_bytes [] = omega (arith, without_page 0 NoCommand tt)
few_bytes (name ∷ words) = omega (arith, command_page name (form_of name) words (short_of name))
