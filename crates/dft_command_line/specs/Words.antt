-- The command lines that are understood.
use Rattle.std.specs.Prelude.{ℕ, ◌<◌, ◌≤◌, ◌^◌, ◌≡◌, ◌⊎◌, Bool, true, false, not, ◌==◌, List, [], ◌∷◌, ◌++◌, codes, flat_map, length, map, Option, None, Some, if◌then◌else◌}
use Rattle.std.specs.List.{AllByRecursion}
use Rattle.std.specs.Str.{bytes_eq}
use Rattle.std.specs.Str.Parse.{IsNumeral, digits_value}

abbrev pub Text : Type 0
Text = List ℕ

-- ---- options

-- an option as it is given: joined, `--name=value`, or as two words, `--name value`
pub record Given : Type 0 where
  pub name : Text
  pub value : Text
  pub joined : Bool

abbrev pub words_of : Given → List Text
words_of g = if g.joined then (codes "--" ++ (g.name ++ 61 ∷ g.value)) ∷ [] else (codes "--" ++ g.name) ∷ g.value ∷ []

-- a word that is a value: it is `-`, or it is not empty and does not begin with `-`
abbrev pub is_value_word : Text → Bool
is_value_word [] = false
is_value_word (b ∷ []) = true
is_value_word (b ∷ c ∷ bs) = not (b == 45)

-- no value is empty, and a joined one may be any other
abbrev pub is_value : (joined : Bool) → Text → Bool
is_value true [] = false
is_value true (b ∷ bs) = true
is_value false value = is_value_word value

abbrev pub IsOneOf : List Text → Text → Type 0
IsOneOf [] name = ⊥
IsOneOf (n ∷ names) name = (name ≡ n) ⊎ IsOneOf names name

-- the values that an option has, in the order in which they are given
abbrev pub values_of : (name : Text) → List Given → List Text
values_of name [] = []
values_of name (g ∷ given) = if bytes_eq g.name name then g.value ∷ values_of name given else values_of name given

-- ---- commands in general

-- the words are a command and these options, in any order, of which each has one of the names
pub record AreWordsOf (command : Text) (names : List Text) (given : List Given) (words : List Text) : Type 0 where
  pub written : words ≡ command ∷ flat_map words_of given
  pub values : AllByRecursion (λ g. is_value g.joined g.value ≡ true) given
  pub known : AllByRecursion (λ g. IsOneOf names g.name) given

abbrev pub list_of : Option Text → List Text
list_of None = []
list_of (Some text) = text ∷ []

-- an option by its name, and its value where it has one
abbrev pub Valued : Type 0
Valued = Text × Option Text

-- the words are a command with these options and no others: each is given once with its value, or it has none and is not given
pub record IsCommand (command : Text) (options : List Valued) (words : List Text) : Type 0 where
  pub given : List Given
  pub are : AreWordsOf command (map (λ option. option.0) options) given words
  pub each : AllByRecursion (λ option. values_of option.0 given ≡ list_of option.1) options

-- ---- the commands

-- the files of a replay
pub record ReplayFiles : Type 0 where
  pub library : Option Text
  pub netlist : Text
  pub patterns : Text

abbrev pub replay_options : ReplayFiles → List Valued
replay_options files = (codes "netlist", Some files.netlist) ∷ (codes "patterns", Some files.patterns) ∷ (codes "library", files.library) ∷ []

abbrev pub IsReplay : List Text → ReplayFiles → Type 0
IsReplay words files = IsCommand (codes "replay") (replay_options files) words

-- the files of a scan
pub record ScanFiles : Type 0 where
  pub library : Option Text
  pub netlist : Text
  pub config : Text
  pub out : Text
  pub report : Text

abbrev pub scan_options : ScanFiles → List Valued
scan_options files =
    (codes "netlist", Some files.netlist) ∷ (codes "config", Some files.config) ∷ (codes "out", Some files.out) ∷ (codes "report", Some files.report)
    ∷ (codes "library", files.library) ∷ []

-- the two files that a scan saves have different names
abbrev pub IsScan : List Text → ScanFiles → Type 0
IsScan words files = IsCommand (codes "scan") (scan_options files) words × (files.out ≡ files.report → ⊥)

-- the files of a compilation
pub record CompileFiles : Type 0 where
  pub library : Option Text
  pub netlist : Text
  pub config : Text
  pub cubes : Text
  pub out_netlist : Text
  pub out_patterns : Text
  pub out_report : Text

abbrev pub compile_options : CompileFiles → List Valued
compile_options files =
    (codes "netlist", Some files.netlist) ∷ (codes "config", Some files.config) ∷ (codes "cubes", Some files.cubes)
    ∷ (codes "out-netlist", Some files.out_netlist) ∷ (codes "out-patterns", Some files.out_patterns) ∷ (codes "out-report", Some files.out_report)
    ∷ (codes "library", files.library) ∷ []

-- the three files that a compilation saves have different names
pub record OutputsDiffer (files : CompileFiles) : Type 0 where
  pub patterns : files.out_netlist ≡ files.out_patterns → ⊥
  pub report : files.out_netlist ≡ files.out_report → ⊥
  pub both : files.out_patterns ≡ files.out_report → ⊥

abbrev pub IsCompile : List Text → CompileFiles → Type 0
IsCompile words files = IsCommand (codes "compile") (compile_options files) words × OutputsDiffer files

-- the files of a test of certificates, of which none is saved
pub record CertifyFiles : Type 0 where
  pub library : Option Text
  pub netlist : Text
  pub config : Text
  pub cubes : Text
  pub report : Text

abbrev pub certify_options : CertifyFiles → List Valued
certify_options files =
    (codes "netlist", Some files.netlist) ∷ (codes "config", Some files.config) ∷ (codes "cubes", Some files.cubes) ∷ (codes "report", Some files.report)
    ∷ (codes "library", files.library) ∷ []

abbrev pub IsCertify : List Text → CertifyFiles → Type 0
IsCertify words files = IsCommand (codes "certify") (certify_options files) words

-- the files of a grading: three that are loaded, and one that is saved
pub record GradeFiles : Type 0 where
  pub library : Option Text
  pub netlist : Text
  pub patterns : Text
  pub out : Text

abbrev pub grade_options : GradeFiles → List Valued
grade_options files = (codes "netlist", Some files.netlist) ∷ (codes "patterns", Some files.patterns) ∷ (codes "out", Some files.out) ∷ (codes "library", files.library) ∷ []

abbrev pub IsGrade : List Text → GradeFiles → Type 0
IsGrade words files = IsCommand (codes "grade") (grade_options files) words

-- ---- the generated job

-- a text is decimal digits, at most so many, of this number, which is below 2^64; zeros may lead
pub record IsDecimal (most : ℕ) (text : Text) (number : ℕ) : Type 0 where
  pub digits : IsNumeral 10 text
  pub few : length text ≤ most
  pub value : digits_value 10 text ≡ number
  pub below : number < 2 ^ 64

-- the seed of a job, and how many cells it has
pub record JobNumbers : Type 0 where
  pub seed : ℕ
  pub size : ℕ

abbrev pub generate_options : (seed size : Text) → List Valued
generate_options seed size = (codes "seed", Some seed) ∷ (codes "size", Some size) ∷ []

-- the seed is written with 20 digits at most, the size with 5, and a job has 16 to 20,000 cells
pub record IsGenerate (words : List Text) (job : JobNumbers) : Type 0 where
  pub seed : Text
  pub size : Text
  pub written : IsCommand (codes "generate") (generate_options seed size) words
  pub seed_is : IsDecimal 20 seed job.seed
  pub size_is : IsDecimal 5 size job.size
  pub least : 16 ≤ job.size
  pub most : job.size ≤ 20000

-- ---- made configurations

-- the numbers of a made configuration
pub record HardwareNumbers : Type 0 where
  pub channels : ℕ
  pub chains : Option ℕ
  pub longest : Option ℕ
  pub outputs : Option ℕ
  pub masks : Option ℕ

-- its files, of which two are loaded and one is saved
pub record ConfigureFiles : Type 0 where
  pub library : Option Text
  pub netlist : Text
  pub out : Text
  pub numbers : HardwareNumbers

-- a text is decimal digits, at most so many, of this number, which is from 1 to `most`
pub record IsWithin (digits most : ℕ) (text : Text) (number : ℕ) : Type 0 where
  pub is : IsDecimal digits text number
  pub low : 1 ≤ number
  pub high : number ≤ most

-- so is an option that may be left out
abbrev pub IsPerhapsWithin : (digits most : ℕ) → Option Text → Option ℕ → Type 0
IsPerhapsWithin digits most None None = Unit {0}
IsPerhapsWithin digits most (Some text) (Some number) = IsWithin digits most text number
IsPerhapsWithin digits most (Some text) None = ⊥
IsPerhapsWithin digits most None (Some number) = ⊥

-- just one of the two is there
abbrev pub IsOne : Option ℕ → Option ℕ → Type 0
IsOne (Some one) None = Unit {0}
IsOne None (Some other) = Unit {0}
IsOne (Some one) (Some other) = ⊥
IsOne None None = ⊥

-- how the numbers are written
pub record HardwareTexts : Type 0 where
  pub channels : Text
  pub chains : Option Text
  pub longest : Option Text
  pub outputs : Option Text
  pub masks : Option Text

-- these texts are these numbers; `chains` or `length` is given, and not both
pub record AreNumbers (texts : HardwareTexts) (numbers : HardwareNumbers) : Type 0 where
  pub channels : IsWithin 2 32 texts.channels numbers.channels
  pub chains : IsPerhapsWithin 4 1024 texts.chains numbers.chains
  pub longest : IsPerhapsWithin 5 65536 texts.longest numbers.longest
  pub outputs : IsPerhapsWithin 2 32 texts.outputs numbers.outputs
  pub masks : IsPerhapsWithin 2 32 texts.masks numbers.masks
  pub one : IsOne numbers.chains numbers.longest

abbrev pub configure_options : ConfigureFiles → HardwareTexts → List Valued
configure_options files texts =
    (codes "netlist", Some files.netlist) ∷ (codes "channels", Some texts.channels) ∷ (codes "out", Some files.out)
    ∷ (codes "chains", texts.chains) ∷ (codes "length", texts.longest) ∷ (codes "outputs", texts.outputs) ∷ (codes "masks", texts.masks)
    ∷ (codes "library", files.library) ∷ []

pub record IsConfigure (words : List Text) (files : ConfigureFiles) : Type 0 where
  pub texts : HardwareTexts
  pub written : IsCommand (codes "configure") (configure_options files texts) words
  pub numbers : AreNumbers texts files.numbers

-- ---- sought cubes

-- the files of a search, of which three are loaded and two are saved, its clock, and its limit of dead nodes
pub record SeekFiles : Type 0 where
  pub library : Option Text
  pub netlist : Text
  pub config : Text
  pub clock : Text
  pub limit : ℕ
  pub out_cubes : Text
  pub out_report : Text

abbrev pub seek_options : SeekFiles → (limit : Text) → List Valued
seek_options files limit =
    (codes "netlist", Some files.netlist) ∷ (codes "config", Some files.config) ∷ (codes "clock", Some files.clock) ∷ (codes "limit", Some limit)
    ∷ (codes "out-cubes", Some files.out_cubes) ∷ (codes "out-report", Some files.out_report)
    ∷ (codes "library", files.library) ∷ []

-- the limit is written with 7 digits at most and is at most 1,000,000, and the two files that are saved have different names
pub record IsSeek (words : List Text) (files : SeekFiles) : Type 0 where
  pub limit : Text
  pub written : IsCommand (codes "seek") (seek_options files limit) words
  pub is : IsDecimal 7 limit files.limit
  pub most : files.limit ≤ 1000000
  pub differ : files.out_cubes ≡ files.out_report → ⊥

-- ---- what words are

pub data Command : Type 0 where
  Replay : ReplayFiles → Command
  Scan : ScanFiles → Command
  Compile : CompileFiles → Command
  Certify : CertifyFiles → Command
  Generate : JobNumbers → Command
  Grade : GradeFiles → Command
  Configure : ConfigureFiles → Command
  Seek : SeekFiles → Command

abbrev pub IsFor : List Text → Command → Type 0
IsFor words (Replay files) = IsReplay words files
IsFor words (Scan files) = IsScan words files
IsFor words (Compile files) = IsCompile words files
IsFor words (Certify files) = IsCertify words files
IsFor words (Generate job) = IsGenerate words job
IsFor words (Grade files) = IsGrade words files
IsFor words (Configure files) = IsConfigure words files
IsFor words (Seek files) = IsSeek words files

-- what words are: a command, or no command
abbrev pub AreFor : List Text → Option Command → Type 0
AreFor words (Some command) = IsFor words command
AreFor words None = (command : Command) → IsFor words command → ⊥
