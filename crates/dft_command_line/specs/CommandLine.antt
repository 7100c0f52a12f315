-- What `clap` is told of the command line, and what it is not told.
use Rattle.std.specs.Prelude.{ℕ, Bool, true, false, not, ◌==◌, ◌&&◌, ◌^◌, List, [], ◌∷◌, ◌++◌, codes, fold, length, map, nat_le, nat_lt, if◌then◌else◌, Some, Option, None, option_map, option_and_then}
use Rattle.std.specs.Char.{is_ascii_digit}
use Rattle.std.specs.List.{list_all}
use Rattle.std.specs.Str.{bytes_eq}
use Rattle.std.specs.Str.Parse.{digits_value}
use Rattle.clap.specs.Words.{App, Rule, Shape, new_app, new_rule, with_rule, with_subcommand}
use Rattle.clap.specs.Simple.{new_shape, on_top}
use Rattle.clap.specs.Walk.{Row, first_of}
use Rattle.dft_command_line.specs.Words.{Text, ReplayFiles, ScanFiles, CompileFiles, CertifyFiles, GradeFiles, JobNumbers, HardwareNumbers, ConfigureFiles, SeekFiles, Command, Replay, Scan, Compile, Certify, Generate, Grade, Configure, Seek}

-- ---- the forms of commands

-- an option that a command has, and whether it must be given
pub record Known : Type 0 where
  pub name : Text
  pub required : Bool

abbrev pub needed : Text → Known
needed name = record { name = name; required = true }

abbrev pub optional : Text → Known
optional name = record { name = name; required = false }

pub record Form : Type 0 where
  pub command : Text
  pub options : List Known

abbrev pub replay_form : Form
replay_form = record { command = codes "replay"; options = needed (codes "netlist") ∷ needed (codes "patterns") ∷ optional (codes "library") ∷ [] }

abbrev pub scan_form : Form
scan_form = record {
  command = codes "scan";
  options = needed (codes "netlist") ∷ needed (codes "config") ∷ needed (codes "out") ∷ needed (codes "report") ∷ optional (codes "library") ∷ [];
}

abbrev pub compile_form : Form
compile_form = record {
  command = codes "compile";
  options =
      needed (codes "netlist") ∷ needed (codes "config") ∷ needed (codes "cubes")
      ∷ needed (codes "out-netlist") ∷ needed (codes "out-patterns") ∷ needed (codes "out-report")
      ∷ optional (codes "library") ∷ [];
}

abbrev pub certify_form : Form
certify_form = record {
  command = codes "certify";
  options = needed (codes "netlist") ∷ needed (codes "config") ∷ needed (codes "cubes") ∷ needed (codes "report") ∷ optional (codes "library") ∷ [];
}

abbrev pub generate_form : Form
generate_form = record { command = codes "generate"; options = needed (codes "seed") ∷ needed (codes "size") ∷ [] }

abbrev pub grade_form : Form
grade_form = record { command = codes "grade"; options = needed (codes "netlist") ∷ needed (codes "patterns") ∷ needed (codes "out") ∷ optional (codes "library") ∷ [] }

abbrev pub configure_form : Form
configure_form = record {
  command = codes "configure";
  options =
      needed (codes "netlist") ∷ needed (codes "channels") ∷ needed (codes "out")
      ∷ optional (codes "chains") ∷ optional (codes "length") ∷ optional (codes "outputs") ∷ optional (codes "masks")
      ∷ optional (codes "library") ∷ [];
}

abbrev pub seek_form : Form
seek_form = record {
  command = codes "seek";
  options =
      needed (codes "netlist") ∷ needed (codes "config") ∷ needed (codes "clock") ∷ needed (codes "limit")
      ∷ needed (codes "out-cubes") ∷ needed (codes "out-report")
      ∷ optional (codes "library") ∷ [];
}

abbrev pub first_forms : List Form
first_forms = replay_form ∷ scan_form ∷ compile_form ∷ certify_form ∷ []

abbrev pub forms : List Form
forms = first_forms ++ generate_form ∷ grade_form ∷ configure_form ∷ seek_form ∷ []

-- ---- what `clap` is told

abbrev pub option_rule : Known → Rule
option_rule o = record (new_rule o.name) { long = Some o.name; required = o.required }

abbrev pub form_shape : Form → Shape
form_shape form = record (new_shape form.command) { rules = map option_rule form.options }

-- the command with options of these names
abbrev pub with_options : (required : Bool) → App → List Text → App
with_options required app [] = app
with_options required app (name ∷ names) = with_options required (with_rule app (option_rule (record { name = name; required = required }))) names

-- the words are those behind the program's name, the first is a command, and there is no help
abbrev pub plain_app : App
plain_app = on_top (λ s. record s {
  no_binary_name = true;
  disable_help_flag = true;
  disable_help_subcommand = true;
  subcommand_required = true;
}) (new_app (codes "dft"))

-- the commands with further ones
abbrev pub with_forms : App → List Form → App
with_forms = fold (λ app form. with_subcommand app (form_shape form))

abbrev pub dft_app : App
dft_app = with_forms plain_app forms

-- ---- what it is not told

-- a word of a command line: it does not begin with one `-` before other bytes, and it is not `--`
abbrev pub may_stand : Text → Bool
may_stand [] = true
may_stand (b ∷ []) = true
may_stand (b ∷ c ∷ []) = if b == 45 then false else true
may_stand (b ∷ c ∷ d ∷ bs) = if b == 45 then c == 45 else true

-- an empty value is none
abbrev pub is_empty : Text → Bool
is_empty text = length text == 0

abbrev pub value_from : Option Text → Option Text
value_from None = None
value_from (Some text) = if is_empty text then None else Some text

abbrev pub perhaps_from : Option Text → Option (Option Text)
perhaps_from None = Some None
perhaps_from (Some text) = if is_empty text then None else Some (Some text)

-- the value that an option must have, and the one that it may have
abbrev pub value_in : (name : Text) → List Row → Option Text
value_in name rows = value_from (first_of name rows)

abbrev pub perhaps_in : (name : Text) → List Row → Option (Option Text)
perhaps_in name rows = perhaps_from (first_of name rows)

-- ---- the command that was found

abbrev pub replay_from : (library : Option (Option Text)) → (netlist patterns : Option Text) → Option ReplayFiles
replay_from (Some library) (Some netlist) (Some patterns) = Some (record { library = library; netlist = netlist; patterns = patterns })
replay_from _ _ _ = None

abbrev pub replay_in : List Row → Option ReplayFiles
replay_in rows = replay_from (perhaps_in (codes "library") rows) (value_in (codes "netlist") rows) (value_in (codes "patterns") rows)

abbrev pub differing : ScanFiles → Option ScanFiles
differing files = if bytes_eq files.out files.report then None else Some files

abbrev pub scan_from : (library : Option (Option Text)) → (netlist config out report : Option Text) → Option ScanFiles
scan_from (Some library) (Some netlist) (Some config) (Some out) (Some report) = differing (record { library = library; netlist = netlist; config = config; out = out; report = report })
scan_from _ _ _ _ _ = None

abbrev pub scan_in : List Row → Option ScanFiles
scan_in rows = scan_from (perhaps_in (codes "library") rows) (value_in (codes "netlist") rows) (value_in (codes "config") rows) (value_in (codes "out") rows) (value_in (codes "report") rows)

abbrev pub outputs_differ : CompileFiles → Bool
outputs_differ files =
    if bytes_eq files.out_netlist files.out_patterns then false
    else (if bytes_eq files.out_netlist files.out_report then false else not (bytes_eq files.out_patterns files.out_report))

abbrev pub where_outputs_differ : CompileFiles → Option CompileFiles
where_outputs_differ files = if outputs_differ files then Some files else None

-- the files that a compilation loads, and those that it saves
abbrev pub compile_from : (library : Option (Option Text)) → (netlist config cubes out_netlist out_patterns out_report : Option Text) → Option CompileFiles
compile_from (Some library) (Some netlist) (Some config) (Some cubes) (Some out_netlist) (Some out_patterns) (Some out_report) = where_outputs_differ (record {
  library = library;
  netlist = netlist;
  config = config;
  cubes = cubes;
  out_netlist = out_netlist;
  out_patterns = out_patterns;
  out_report = out_report;
})
compile_from _ _ _ _ _ _ _ = None

abbrev pub compile_in : List Row → Option CompileFiles
compile_in rows =
    compile_from (perhaps_in (codes "library") rows) (value_in (codes "netlist") rows) (value_in (codes "config") rows) (value_in (codes "cubes") rows)
    (value_in (codes "out-netlist") rows) (value_in (codes "out-patterns") rows) (value_in (codes "out-report") rows)

abbrev pub certify_from : (library : Option (Option Text)) → (netlist config cubes report : Option Text) → Option CertifyFiles
certify_from (Some library) (Some netlist) (Some config) (Some cubes) (Some report) = Some (record { library = library; netlist = netlist; config = config; cubes = cubes; report = report })
certify_from _ _ _ _ _ = None

abbrev pub certify_in : List Row → Option CertifyFiles
certify_in rows =
    certify_from (perhaps_in (codes "library") rows) (value_in (codes "netlist") rows) (value_in (codes "config") rows) (value_in (codes "cubes") rows) (value_in (codes "report") rows)

abbrev pub grade_from : (library : Option (Option Text)) → (netlist patterns out : Option Text) → Option GradeFiles
grade_from (Some library) (Some netlist) (Some patterns) (Some out) = Some (record { library = library; netlist = netlist; patterns = patterns; out = out })
grade_from _ _ _ _ = None

abbrev pub grade_in : List Row → Option GradeFiles
grade_in rows = grade_from (perhaps_in (codes "library") rows) (value_in (codes "netlist") rows) (value_in (codes "patterns") rows) (value_in (codes "out") rows)

-- some digits, at most so many, of a number below 2^64
abbrev pub is_decimal : (most : ℕ) → Text → Bool
is_decimal most text = nat_lt 0 (length text) && (nat_le (length text) most && (list_all is_ascii_digit text && nat_lt (digits_value 10 text) (2 ^ 64)))

abbrev pub decimal_of : (most : ℕ) → Text → Option ℕ
decimal_of most text = if is_decimal most text then Some (digits_value 10 text) else None

abbrev pub decimal_in : (most : ℕ) → (name : Text) → List Row → Option ℕ
decimal_in most name rows = option_and_then (decimal_of most) (value_in name rows)

abbrev pub sized : JobNumbers → Option JobNumbers
sized job = if nat_le 16 job.size && nat_le job.size 20000 then Some job else None

abbrev pub generate_from : (seed size : Option ℕ) → Option JobNumbers
generate_from (Some seed) (Some size) = sized (record { seed = seed; size = size })
generate_from _ _ = None

abbrev pub generate_in : List Row → Option JobNumbers
generate_in rows = generate_from (decimal_in 20 (codes "seed") rows) (decimal_in 5 (codes "size") rows)

-- the number, where it is from 1 to so many
abbrev pub ranged : (most number : ℕ) → Option ℕ
ranged most number = if nat_le 1 number && nat_le number most then Some number else None

abbrev pub number_in : (digits most : ℕ) → (name : Text) → List Row → Option ℕ
number_in digits most name rows = option_and_then (ranged most) (decimal_in digits name rows)

abbrev pub perhaps_number_from : (digits most : ℕ) → Option Text → Option (Option ℕ)
perhaps_number_from digits most None = Some None
perhaps_number_from digits most (Some text) = option_map Some (option_and_then (ranged most) (decimal_of digits text))

abbrev pub perhaps_number_in : (digits most : ℕ) → (name : Text) → List Row → Option (Option ℕ)
perhaps_number_in digits most name rows = perhaps_number_from digits most (first_of name rows)

-- whether just one of the two is there
abbrev pub is_one : Option ℕ → Option ℕ → Bool
is_one (Some one) None = true
is_one None (Some other) = true
is_one (Some one) (Some other) = false
is_one None None = false

abbrev pub one_of_both : HardwareNumbers → Option HardwareNumbers
one_of_both numbers = if is_one numbers.chains numbers.longest then Some numbers else None

abbrev pub numbers_from : (channels : Option ℕ) → (chains longest outputs masks : Option (Option ℕ)) → Option HardwareNumbers
numbers_from (Some channels) (Some chains) (Some longest) (Some outputs) (Some masks) =
    one_of_both (record { channels = channels; chains = chains; longest = longest; outputs = outputs; masks = masks })
numbers_from _ _ _ _ _ = None

abbrev pub numbers_in : List Row → Option HardwareNumbers
numbers_in rows =
    numbers_from (number_in 2 32 (codes "channels") rows) (perhaps_number_in 4 1024 (codes "chains") rows) (perhaps_number_in 5 65536 (codes "length") rows)
    (perhaps_number_in 2 32 (codes "outputs") rows) (perhaps_number_in 2 32 (codes "masks") rows)

abbrev pub configure_from : (library : Option (Option Text)) → (netlist out : Option Text) → Option HardwareNumbers → Option ConfigureFiles
configure_from (Some library) (Some netlist) (Some out) (Some numbers) = Some (record { library = library; netlist = netlist; out = out; numbers = numbers })
configure_from _ _ _ _ = None

abbrev pub configure_in : List Row → Option ConfigureFiles
configure_in rows = configure_from (perhaps_in (codes "library") rows) (value_in (codes "netlist") rows) (value_in (codes "out") rows) (numbers_in rows)

-- the limit is no greater than it may be, and the files that are saved differ
abbrev pub limited : SeekFiles → Option SeekFiles
limited files = if nat_le files.limit 1000000 && not (bytes_eq files.out_cubes files.out_report) then Some files else None

abbrev pub seek_from : (library : Option (Option Text)) → (netlist config clock : Option Text) → (limit : Option ℕ) → (out_cubes out_report : Option Text) → Option SeekFiles
seek_from (Some library) (Some netlist) (Some config) (Some clock) (Some limit) (Some out_cubes) (Some out_report) = limited (record {
  library = library;
  netlist = netlist;
  config = config;
  clock = clock;
  limit = limit;
  out_cubes = out_cubes;
  out_report = out_report;
})
seek_from _ _ _ _ _ _ _ = None

abbrev pub seek_in : List Row → Option SeekFiles
seek_in rows =
    seek_from (perhaps_in (codes "library") rows) (value_in (codes "netlist") rows) (value_in (codes "config") rows) (value_in (codes "clock") rows)
    (decimal_in 7 (codes "limit") rows) (value_in (codes "out-cubes") rows) (value_in (codes "out-report") rows)

abbrev pub further_from : (name : Text) → List Row → Option Command
further_from name rows =
    if bytes_eq name (codes "generate") then option_map Generate (generate_in rows)
    else (if bytes_eq name (codes "grade") then option_map Grade (grade_in rows)
    else (if bytes_eq name (codes "configure") then option_map Configure (configure_in rows)
    else (if bytes_eq name (codes "seek") then option_map Seek (seek_in rows) else None)))

abbrev pub command_from : (name : Text) → List Row → Option Command
command_from name rows =
    if bytes_eq name (codes "replay") then option_map Replay (replay_in rows)
    else (if bytes_eq name (codes "scan") then option_map Scan (scan_in rows)
    else (if bytes_eq name (codes "compile") then option_map Compile (compile_in rows)
    else (if bytes_eq name (codes "certify") then option_map Certify (certify_in rows) else further_from name rows)))

abbrev pub command_in : Option (Text × List Row) → Option Command
command_in None = None
command_in (Some found) = command_from found.0 found.1
