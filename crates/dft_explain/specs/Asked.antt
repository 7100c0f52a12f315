-- The three lists of words that ask for help or for the version.
use Rattle.std.specs.Prelude.{ℕ, List, [], ◌∷◌, codes, Option, None, Some, option_map, if◌then◌else◌}
use Rattle.std.specs.Str.{bytes_eq}
use Rattle.dft_explain.specs.declared.asking.Request.{Request}
use Rattle.dft_explain.specs.declared.asking.Request.TheVariants as request
use Rattle.dft_explain.specs.declared.asking.Topic.{Topic}
use Rattle.dft_explain.specs.declared.asking.Topic.TheVariants.{Replay, Scan, Compile, Certify, Generate, Grade, Configure, Seek}

abbrev pub further_topic : List ℕ → Option Topic
further_topic name =
    if bytes_eq name (codes "generate") then Some Generate
    else (if bytes_eq name (codes "grade") then Some Grade
    else (if bytes_eq name (codes "configure") then Some Configure
    else (if bytes_eq name (codes "seek") then Some Seek else None)))

-- the command of this name
abbrev pub topic_of : List ℕ → Option Topic
topic_of name =
    if bytes_eq name (codes "replay") then Some Replay
    else (if bytes_eq name (codes "scan") then Some Scan
    else (if bytes_eq name (codes "compile") then Some Compile
    else (if bytes_eq name (codes "certify") then Some Certify else further_topic name)))

-- `--help` and `--version`, alone
abbrev pub asked_alone : List ℕ → Option Request
asked_alone word =
    if bytes_eq word (codes "--help") then Some request.Help
    else (if bytes_eq word (codes "--version") then Some request.Version else None)

-- a command and `--help`
abbrev pub asked_of : List ℕ → List ℕ → Option Request
asked_of name word = if bytes_eq word (codes "--help") then option_map request.HelpOf (topic_of name) else None

-- what words ask for, if they are one of the three lists
abbrev pub asked_by : List (List ℕ) → Option Request
asked_by [] = None
asked_by (word ∷ []) = asked_alone word
asked_by (name ∷ word ∷ []) = asked_of name word
asked_by (name ∷ word ∷ more ∷ words) = None
