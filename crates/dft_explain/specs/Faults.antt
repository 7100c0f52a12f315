-- What is wrong with words that are no command: the first of seven faults, in their order.
use Rattle.std.specs.Prelude.{ℕ, Bool, true, false, not, ◌==◌, ◌&&◌, ◌^◌, List, [], ◌∷◌, ◌++◌, codes, drop, length, nat_lt, take, Option, None, Some, option_and_then, if◌then◌else◌}
use Rattle.std.specs.Char.{is_ascii_digit}
use Rattle.std.specs.List.{list_all, prefix_len}
use Rattle.std.specs.Str.{bytes_eq}
use Rattle.std.specs.Str.Parse.{digits_value}
use Rattle.dft_explain.specs.Options.{behind, compile_saves, configure_saves, grade_saves, option_of, scan_saves, seek_saves, value_of}

abbrev pub Text : Type 0
Text = List ℕ

-- ---- the forms of commands

-- an option whose value is a number: how many digits it may have, the least and the greatest, and how a person is told
pub record Range : Type 0 where
  pub option : Text
  pub digits : ℕ
  pub least : ℕ
  pub most : ℕ
  pub text : Text

unfoldable pub seed : Range
seed = record { option = codes "seed"; digits = 20; least = 0; most = 18446744073709551615; text = codes "0 to 18446744073709551615" }

unfoldable pub size : Range
size = record { option = codes "size"; digits = 5; least = 16; most = 20000; text = codes "16 to 20000" }

unfoldable pub channels : Range
channels = record { option = codes "channels"; digits = 2; least = 1; most = 32; text = codes "1 to 32" }

unfoldable pub chains : Range
chains = record { option = codes "chains"; digits = 4; least = 1; most = 1024; text = codes "1 to 1024" }

unfoldable pub longest : Range
longest = record { option = codes "length"; digits = 5; least = 1; most = 65536; text = codes "1 to 65536" }

unfoldable pub outputs : Range
outputs = record { option = codes "outputs"; digits = 2; least = 1; most = 32; text = codes "1 to 32" }

unfoldable pub masks : Range
masks = record { option = codes "masks"; digits = 2; least = 1; most = 32; text = codes "1 to 32" }

unfoldable pub limit : Range
limit = record { option = codes "limit"; digits = 7; least = 0; most = 1000000; text = codes "0 to 1000000" }

-- two options of which a command needs just one
pub record Pair : Type 0 where
  pub first : Text
  pub second : Text

-- a command: the options that it needs, those that may be left out, the pair of which it needs just one, those whose values are numbers,
-- and those whose files it saves
pub record Form : Type 0 where
  pub name : Text
  pub needed : List Text
  pub optional : List Text
  pub pair : Option Pair
  pub numbers : List Range
  pub saved : List Text

abbrev pub replay_form : Form
replay_form = record { name = codes "replay"; needed = codes "netlist" ∷ codes "patterns" ∷ []; optional = codes "library" ∷ []; pair = None; numbers = []; saved = [] }

abbrev pub scan_form : Form
scan_form = record {
  name = codes "scan";
  needed = codes "netlist" ∷ codes "config" ∷ codes "out" ∷ codes "report" ∷ [];
  optional = codes "library" ∷ [];
  pair = None;
  numbers = [];
  saved = scan_saves;
}

abbrev pub compile_form : Form
compile_form = record {
  name = codes "compile";
  needed = codes "netlist" ∷ codes "config" ∷ codes "cubes" ∷ codes "out-netlist" ∷ codes "out-patterns" ∷ codes "out-report" ∷ [];
  optional = codes "library" ∷ [];
  pair = None;
  numbers = [];
  saved = compile_saves;
}

abbrev pub certify_form : Form
certify_form = record {
  name = codes "certify";
  needed = codes "netlist" ∷ codes "config" ∷ codes "cubes" ∷ codes "report" ∷ [];
  optional = codes "library" ∷ [];
  pair = None;
  numbers = [];
  saved = [];
}

abbrev pub generate_form : Form
generate_form = record { name = codes "generate"; needed = codes "seed" ∷ codes "size" ∷ []; optional = []; pair = None; numbers = seed ∷ size ∷ []; saved = [] }

abbrev pub grade_form : Form
grade_form = record {
  name = codes "grade";
  needed = codes "netlist" ∷ codes "patterns" ∷ codes "out" ∷ [];
  optional = codes "library" ∷ [];
  pair = None;
  numbers = [];
  saved = grade_saves;
}

abbrev pub configure_form : Form
configure_form = record {
  name = codes "configure";
  needed = codes "netlist" ∷ codes "channels" ∷ codes "out" ∷ [];
  optional = codes "chains" ∷ codes "length" ∷ codes "outputs" ∷ codes "masks" ∷ codes "library" ∷ [];
  pair = Some (record { first = codes "chains"; second = codes "length" });
  numbers = channels ∷ chains ∷ longest ∷ outputs ∷ masks ∷ [];
  saved = configure_saves;
}

abbrev pub seek_form : Form
seek_form = record {
  name = codes "seek";
  needed = codes "netlist" ∷ codes "config" ∷ codes "clock" ∷ codes "limit" ∷ codes "out-cubes" ∷ codes "out-report" ∷ [];
  optional = codes "library" ∷ [];
  pair = None;
  numbers = limit ∷ [];
  saved = seek_saves;
}

abbrev pub further_form : (name : Text) → Option Form
further_form name =
    if bytes_eq name (codes "generate") then Some generate_form
    else (if bytes_eq name (codes "grade") then Some grade_form
    else (if bytes_eq name (codes "configure") then Some configure_form
    else (if bytes_eq name (codes "seek") then Some seek_form else None)))

-- the command of this name
abbrev pub form_of : (name : Text) → Option Form
form_of name =
    if bytes_eq name (codes "replay") then Some replay_form
    else (if bytes_eq name (codes "scan") then Some scan_form
    else (if bytes_eq name (codes "compile") then Some compile_form
    else (if bytes_eq name (codes "certify") then Some certify_form else further_form name)))

abbrev pub is_among : (text : Text) → (texts : List Text) → Bool
is_among text [] = false
is_among text (t ∷ ts) = if bytes_eq t text then true else is_among text ts

-- whether a command has an option of this name
abbrev pub has : Form → (option : Text) → Bool
has form option = if is_among option form.needed then true else is_among option form.optional

-- ---- faults

pub data Fault : Type 0 where
  -- there is no word
  NoCommand : Fault
  -- the first word is no command
  NoSuchCommand : (word : Text) → Fault
  -- a word that is no `--NAME` or `--NAME=VALUE`, where an option may stand
  Unexpected : (word : Text) → Fault
  -- an option that the command has not, one that was given before, one without a value, and one with an empty value
  NoOption : (option : Text) → Fault
  Twice : (option : Text) → Fault
  NoValue : (option : Text) → Fault
  EmptyValue : (option : Text) → Fault
  -- an option that the command needs
  Missing : (option : Text) → Fault
  -- two options of which the command needs just one
  NotOne : (first second : Text) → Fault
  -- a value that is no number of its option's range
  NoNumber : (option range value : Text) → Fault
  -- two outputs of one name
  OneFile : (first second file : Text) → Fault

-- the first of two, where it is there
abbrev pub or_else : Option Fault → Option Fault → Option Fault
or_else None other = other
or_else (Some fault) other = Some fault

-- ---- options as they are given

-- a byte of an option's name
abbrev pub is_of_name : (byte : ℕ) → Bool
is_of_name b = not (b == 61)

-- a name is not empty, and ends before the first `=`
abbrev pub named : (text : Text) → Option Text
named text = if prefix_len is_of_name text == 0 then None else Some (take (prefix_len is_of_name text) text)

-- what stands behind the first byte
abbrev pub behind_first : (text : Text) → Option Text
behind_first [] = None
behind_first (b ∷ bs) = Some bs

-- what stands behind the first `=`
abbrev pub joined : (text : Text) → Option Text
joined text = behind_first (drop (prefix_len is_of_name text) text)

-- the name of the option that a word gives, `--NAME` or `--NAME=VALUE`, and the value that is joined to it
abbrev pub name_in : (word : Text) → Option Text
name_in word = option_and_then named (behind (codes "--") word)

abbrev pub joined_in : (word : Text) → Option Text
joined_in word = option_and_then joined (behind (codes "--") word)

-- a value that is a word of its own is `-`, or does not begin with `-`
abbrev pub may_be_value : (word : Text) → Bool
may_be_value [] = true
may_be_value (b ∷ []) = true
may_be_value (b ∷ c ∷ bs) = not (b == 45)

abbrev pub next_value : (next : List Text) → Option Text
next_value [] = None
next_value (word ∷ words) = if may_be_value word then Some word else None

-- the value of an option: it is joined, or it is the next word
abbrev pub value_from : (joined : Option Text) → (next : List Text) → Option Text
value_from (Some value) next = Some value
value_from None next = next_value next

-- the words behind an option and its value
abbrev pub words_after : (joined : Option Text) → (next : List Text) → List Text
words_after (Some value) next = next
words_after None next = drop 1 next

-- ---- the first option that is wrong

abbrev pub fault_of_value : (name : Text) → (value : Option Text) → Option Fault
fault_of_value name None = Some (NoValue name)
fault_of_value name (Some []) = Some (EmptyValue name)
fault_of_value name (Some (b ∷ bs)) = None

-- the command has the option, it was not given before, and its value is there and not empty
abbrev pub fault_of_named : Form → (before : List Text) → (word : Text) → (name : Option Text) → (value : Option Text) → Option Fault
fault_of_named form before word None value = Some (Unexpected word)
fault_of_named form before word (Some name) value =
    if has form name then (if is_among name before then Some (Twice name) else fault_of_value name value) else Some (NoOption name)

-- what is wrong with the option that a word gives, behind options of these names
abbrev pub fault_of_option : Form → (before : List Text) → (word : Text) → (next : List Text) → Option Fault
fault_of_option form before word next = fault_of_named form before word (name_in word) (value_from (joined_in word) next)

abbrev pub name_or_none : Option Text → List Text
name_or_none None = []
name_or_none (Some name) = name ∷ []

abbrev pub names_with : (before : List Text) → (name : Option Text) → List Text
names_with before None = before
names_with before (Some name) = before ++ name ∷ []

-- where a value is joined, the next word is no value
abbrev pub by_value : (joined : Option Text) → (with_next behind_next : Option Fault) → Option Fault
by_value (Some value) with_next behind_next = with_next
by_value None with_next behind_next = behind_next

-- the first option that is wrong, behind options of these names
abbrev pub wrong_option : Form → (before words : List Text) → Option Fault
wrong_option form before [] = None
wrong_option form before (word ∷ []) = fault_of_option form before word []
wrong_option form before (word ∷ next ∷ words) =
    or_else (fault_of_option form before word (next ∷ words))
    (by_value (joined_in word) (wrong_option form (names_with before (name_in word)) (next ∷ words)) (wrong_option form (names_with before (name_in word)) words))

-- ---- what is wrong with options that are right each

abbrev pub fault_where_none : (option : Text) → (value : Option Text) → Option Fault
fault_where_none option None = Some (Missing option)
fault_where_none option (Some value) = None

-- the first of these options that has no value
abbrev pub missing : (options words : List Text) → Option Fault
missing [] words = None
missing (option ∷ options) words = or_else (fault_where_none option (value_of option words)) (missing options words)

-- just one of two options has a value
abbrev pub fault_of_both : Pair → (one other : Option Text) → Option Fault
fault_of_both pair (Some one) None = None
fault_of_both pair None (Some other) = None
fault_of_both pair (Some one) (Some other) = Some (NotOne pair.first pair.second)
fault_of_both pair None None = Some (NotOne pair.first pair.second)

abbrev pub not_one : Option Pair → (words : List Text) → Option Fault
not_one None words = None
not_one (Some pair) words = fault_of_both pair (value_of pair.first words) (value_of pair.second words)

-- the number below 2^64 that decimal digits write
abbrev pub decimal_of : (text : Text) → Option ℕ
decimal_of text = if nat_lt 0 (length text) && (list_all is_ascii_digit text && nat_lt (digits_value 10 text) (2 ^ 64)) then Some (digits_value 10 text) else None

abbrev pub is_between : (least most : ℕ) → Option ℕ → Bool
is_between least most None = false
is_between least most (Some number) = if nat_lt number least then false else not (nat_lt most number)

abbrev pub is_in : Range → (text : Text) → Bool
is_in range text = if nat_lt range.digits (length text) then false else is_between range.least range.most (decimal_of text)

abbrev pub fault_of_number : Range → (value : Option Text) → Option Fault
fault_of_number range None = None
fault_of_number range (Some value) = if is_in range value then None else Some (NoNumber range.option range.text value)

-- the first of these options whose value is no number of its range
abbrev pub no_number : List Range → (words : List Text) → Option Fault
no_number [] words = None
no_number (range ∷ ranges) words = or_else (fault_of_number range (value_of range.option words)) (no_number ranges words)

abbrev pub fault_of_first : (first : Option Text) → (second file : Text) → Option Fault
fault_of_first None second file = None
fault_of_first (Some first) second file = if bytes_eq first second then None else Some (OneFile first second file)

-- the first output that names this file is another one
abbrev pub fault_of_output : (saved words : List Text) → (second : Text) → (file : Option Text) → Option Fault
fault_of_output saved words second None = None
fault_of_output saved words second (Some file) = fault_of_first (option_of file words saved) second file

-- the first of these outputs whose file an output before it names
abbrev pub one_file : (saved words outputs : List Text) → Option Fault
one_file saved words [] = None
one_file saved words (second ∷ outputs) = or_else (fault_of_output saved words second (value_of second words)) (one_file saved words outputs)

abbrev pub fault_of_right_options : Form → (words : List Text) → Option Fault
fault_of_right_options form words =
    or_else (missing form.needed words) (or_else (not_one form.pair words) (or_else (no_number form.numbers words) (one_file form.saved words form.saved)))

-- the first of the faults of a command's options
abbrev pub fault_of_options : Form → (words : List Text) → Option Fault
fault_of_options form words = or_else (wrong_option form [] words) (fault_of_right_options form words)

abbrev pub fault_of_command : (name : Text) → Option Form → (words : List Text) → Option Fault
fault_of_command name None words = Some (NoSuchCommand name)
fault_of_command name (Some form) words = fault_of_options form words

-- the first fault of words, where there is one
abbrev pub first_fault : (words : List Text) → Option Fault
first_fault [] = Some NoCommand
first_fault (name ∷ words) = fault_of_command name (form_of name) words
