-- What a person is told of words that are no command: the fault, and how the command is written.
use Rattle.std.specs.Prelude.{ℕ, List, [], ◌∷◌, ◌++◌, codes, flat_map, Option, None, Some, if◌then◌else◌}
use Rattle.std.specs.Str.{bytes_eq}
use Rattle.dft_explain.specs.Faults.{Text, Form, Fault, NoCommand, NoSuchCommand, Unexpected, NoOption, Twice, NoValue, EmptyValue, Missing, NotOne, NoNumber, OneFile, fault_of_options, form_of, is_among}

-- ---- the fault

unfoldable pub line_of : (what text : Text) → List Text
line_of what text = what ∷ text ∷ []

unfoldable pub option_line : (option text : Text) → List Text
option_line option text = codes "dft: --" ∷ option ∷ text ∷ []

unfoldable pub command_line : (command text option : Text) → List Text
command_line command text option = codes "dft: " ∷ command ∷ text ∷ option ∷ []

unfoldable pub number_line : (option range value : Text) → List Text
number_line option range value = codes "dft: --" ∷ option ∷ codes " wants a number from " ∷ range ∷ codes ": " ∷ value ∷ []

unfoldable pub pair_pieces : (first second : Text) → List Text
pair_pieces first second = first ∷ codes " and --" ∷ second ∷ codes ", and not both" ∷ []

unfoldable pub pair_line : (command first second : Text) → List Text
pair_line command first second = codes "dft: " ∷ command ∷ codes " needs one of --" ∷ pair_pieces first second

unfoldable pub second_pieces : (second file : Text) → List Text
second_pieces second file = second ∷ codes " save one file: " ∷ file ∷ []

unfoldable pub files_line : (first second file : Text) → List Text
files_line first second file = codes "dft: --" ∷ first ∷ codes " and --" ∷ second_pieces second file

-- the sentence of a fault in the words of this command
abbrev pub fault_line : (command : Text) → Fault → List Text
fault_line command NoCommand = line_of (codes "dft: no command") []
fault_line command (NoSuchCommand word) = line_of (codes "dft: no such command: ") word
fault_line command (Unexpected word) = line_of (codes "dft: unexpected word: ") word
fault_line command (NoOption option) = command_line command (codes " has no option --") option
fault_line command (Twice option) = option_line option (codes " stands twice")
fault_line command (NoValue option) = option_line option (codes " has no value")
fault_line command (EmptyValue option) = option_line option (codes " has an empty value")
fault_line command (Missing option) = command_line command (codes " needs --") option
fault_line command (NotOne first second) = pair_line command first second
fault_line command (NoNumber option range value) = number_line option range value
fault_line command (OneFile first second file) = files_line first second file

-- ---- how commands are written

unfoldable pub any_form_line : List Text
any_form_line = codes "dft: usage: dft COMMAND ..; dft --help says more" ∷ []

-- the options whose values are numbers
abbrev pub counted : List Text
counted = codes "seed" ∷ codes "size" ∷ codes "channels" ∷ codes "chains" ∷ codes "length" ∷ codes "outputs" ∷ codes "masks" ∷ codes "limit" ∷ []

abbrev pub kind_of : (option : Text) → Text
kind_of option = if is_among option counted then codes " NUMBER" else (if bytes_eq option (codes "clock") then codes " NAME" else codes " FILE")

unfoldable pub option_pieces : (mark option : Text) → List Text
option_pieces mark option = mark ∷ option ∷ kind_of option ∷ []

abbrev pub needed_pieces : (option : Text) → List Text
needed_pieces option = option_pieces (codes " --") option

abbrev pub optional_pieces : (option : Text) → List Text
optional_pieces option = option_pieces (codes " [--") option ++ codes "]" ∷ []

-- the command, the options that it needs, and in brackets those that may be left out
unfoldable pub form_line : Form → List Text
form_line form = codes "dft: usage: dft " ∷ form.name ∷ (flat_map needed_pieces form.needed ++ flat_map optional_pieces form.optional)

-- ---- the lines

abbrev pub lines_of : (command : Text) → Option Fault → List (List Text)
lines_of command None = []
lines_of command (Some fault) = fault_line command fault ∷ []

-- the fault, where there is one, and the form of the command
abbrev pub lines_of_form : Form → (words : List Text) → List (List Text)
lines_of_form form words = lines_of form.name (fault_of_options form words) ++ form_line form ∷ []

abbrev pub lines_without_form : Fault → List (List Text)
lines_without_form fault = fault_line [] fault ∷ any_form_line ∷ []

abbrev pub lines_of_command : (name : Text) → Option Form → (words : List Text) → List (List Text)
lines_of_command name None words = lines_without_form (NoSuchCommand name)
lines_of_command name (Some form) words = lines_of_form form words

-- what is told of words
abbrev pub fault_lines : (words : List Text) → List (List Text)
fault_lines [] = lines_without_form NoCommand
fault_lines (name ∷ words) = lines_of_command name (form_of name) words

-- how many lines are told: that of the form alone where there is no fault
abbrev pub count_of : Option Fault → ℕ
count_of None = 1
count_of (Some fault) = 2
