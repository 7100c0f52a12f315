-- Which file an option names, in words that are a command.
use Rattle.std.specs.Prelude.{ℕ, Bool, false, ◌==◌, List, [], ◌∷◌, codes, Option, None, Some, option_and_then, if◌then◌else◌}
use Rattle.std.specs.Str.{bytes_eq}

-- what stands behind these first bytes, where a text begins with them
abbrev pub behind : (front text : List ℕ) → Option (List ℕ)
behind [] text = Some text
behind (f ∷ fs) [] = None
behind (f ∷ fs) (t ∷ ts) = if f == t then behind fs ts else None

-- what a word has behind `--OPTION`
abbrev pub behind_option : (option word : List ℕ) → Option (List ℕ)
behind_option option word = option_and_then (behind option) (behind (codes "--") word)

-- the value that follows: it is joined behind `=`, or it is the next word
abbrev pub value_behind : Option (List ℕ) → (next : List (List ℕ)) → Option (List ℕ)
value_behind None next = None
value_behind (Some []) [] = None
value_behind (Some []) (word ∷ words) = Some word
value_behind (Some (b ∷ bs)) next = if b == 61 then Some bs else None

-- the first of two, where it is there
abbrev pub or_else : Option (List ℕ) → Option (List ℕ) → Option (List ℕ)
or_else (Some text) other = Some text
or_else None other = other

-- the value of an option: in words that are a command no value is of the form `--OPTION`
abbrev pub value_of : (option : List ℕ) → (words : List (List ℕ)) → Option (List ℕ)
value_of option [] = None
value_of option (word ∷ words) = or_else (value_behind (behind_option option word) words) (value_of option words)

-- a text, or an empty one
abbrev pub or_empty : Option (List ℕ) → List ℕ
or_empty None = []
or_empty (Some text) = text

-- ---- the file of a refusal

-- the option whose file codes with this letter speak of
abbrev pub option_of_letter : (code : List ℕ) → List ℕ
option_of_letter [] = codes "netlist"
option_of_letter (c ∷ cs) =
    if c == 76 then codes "library"
    else (if c == 67 then codes "config"
    else (if c == 81 then codes "cubes"
    else (if c == 80 then codes "patterns"
    else (if c == 75 then codes "report" else codes "netlist"))))

-- the patterns that are saved
unfoldable pub patterns_saved : (words : List (List ℕ)) → Option (List ℕ)
patterns_saved words = value_of (codes "out-patterns") words

abbrev pub is_search : (words : List (List ℕ)) → Bool
is_search [] = false
is_search (command ∷ words) = bytes_eq command (codes "seek")

-- The report that is saved: of a compilation, of a scan, or of a grading. A search saves cubes beside it, and a number of bytes does not tell which
-- of the two is too long.
unfoldable pub report_saved : (words : List (List ℕ)) → Option (List ℕ)
report_saved words =
    if is_search words then None
    else or_else (value_of (codes "out-report") words) (or_else (value_of (codes "report") words) (value_of (codes "out") words))

-- F1 names its option, P6 and K6 speak of a file that is saved, all others of the one that their letter says
abbrev pub file_of : (code : List ℕ) → (name : Option (List ℕ)) → (words : List (List ℕ)) → Option (List ℕ)
file_of code name words =
    if bytes_eq code (codes "F1") then value_of (or_empty name) words
    else (if bytes_eq code (codes "P6") then patterns_saved words
    else (if bytes_eq code (codes "K6") then report_saved words
    else value_of (option_of_letter code) words))

-- ---- the option of a file

-- the options whose files are loaded, in the order of loads
abbrev pub loaded : List (List ℕ)
loaded = codes "library" ∷ codes "config" ∷ codes "netlist" ∷ codes "patterns" ∷ codes "cubes" ∷ codes "report" ∷ []

-- the options whose files a scan, a compilation, a grading, a made configuration and a search save, in the order of saves
abbrev pub scan_saves : List (List ℕ)
scan_saves = codes "out" ∷ codes "report" ∷ []

abbrev pub compile_saves : List (List ℕ)
compile_saves = codes "out-netlist" ∷ codes "out-patterns" ∷ codes "out-report" ∷ []

abbrev pub grade_saves : List (List ℕ)
grade_saves = codes "out" ∷ []

abbrev pub configure_saves : List (List ℕ)
configure_saves = codes "out" ∷ []

abbrev pub seek_saves : List (List ℕ)
seek_saves = codes "out-cubes" ∷ codes "out-report" ∷ []

-- the options whose files a command saves
unfoldable pub saved_by : (command : List ℕ) → List (List ℕ)
saved_by command =
    if bytes_eq command (codes "scan") then scan_saves
    else (if bytes_eq command (codes "compile") then compile_saves
    else (if bytes_eq command (codes "grade") then grade_saves
    else (if bytes_eq command (codes "configure") then configure_saves
    else (if bytes_eq command (codes "seek") then seek_saves else []))))

abbrev pub saved : (words : List (List ℕ)) → List (List ℕ)
saved [] = []
saved (command ∷ words) = saved_by command

abbrev pub is_text : List ℕ → Option (List ℕ) → Bool
is_text file None = false
is_text file (Some value) = bytes_eq value file

-- the first of these options that names the file
abbrev pub option_of : (file : List ℕ) → (words options : List (List ℕ)) → Option (List ℕ)
option_of file words [] = None
option_of file words (option ∷ options) = if is_text file (value_of option words) then Some option else option_of file words options

-- the files of the options before the first that names the file, each behind a blank
abbrev pub files_before : (file : List ℕ) → (words options : List (List ℕ)) → List (List ℕ)
files_before file words [] = []
files_before file words (option ∷ options) =
    if is_text file (value_of option words) then [] else codes " " ∷ or_empty (value_of option words) ∷ files_before file words options
