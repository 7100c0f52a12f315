-- Cube files: test cubes, each with the clocks of its capture and with bits of scan cells and of input ports.
use Rattle.std.specs.Prelude.{codes, ℕ, suc, ◌==◌, ◌≡◌, ◌||◌, Bool, true, false, List, [], ◌∷◌, ◌++◌, length, map, position, Option, None, Some, Result, Ok, Err, option_map, is_none, if◌then◌else◌, nat_le}
use Rattle.std.specs.List.{list_any}
use Rattle.std.specs.Str.{bytes_eq}
use Rattle.dft_base.specs.Lexing.{Text}
use Rattle.dft_base.specs.declared.place.Place.{Place}
use Rattle.dft_netlist.specs.declared.ids.NetId.{NetId}
use Rattle.dft_netlist.specs.declared.ids.InstanceId.{InstanceId}
use Rattle.dft_netlist.specs.Netlist.{Netlist}
use Rattle.dft_netlist.specs.Connections.{input_net}
use Rattle.dft_config.specs.Config.{Config}
use Rattle.dft_rules.specs.Rules.{flip_flop_named}
use Rattle.dft_cells.specs.WellFormed.{has_name}
use Rattle.dft_word_lines.specs.Lines.{lines_of, words_of, are_printed}
pub use Rattle.dft_word_lines.specs.Lines.{place_of_line}
use Rattle.dft_cubes.specs.declared.cube.Cube.{Cube}
use Rattle.dft_cubes.specs.declared.error.CubeError.{CubeError}
use Rattle.dft_cubes.specs.declared.error.CubeError.TheVariants.{Q1, Q2, Q3, Q4, Q5, Q6, Q7, Q8, Q9, Memory}
use Rattle.dft_cubes.specs.declared.limits.TheConstants.{MAX_CUBES}

-- ---- what a line says

pub data Line : Type 0 where
  Version : (number : Text) → Line
  Begin : (name clock : Text) → Line
  BeginTwo : (name clock second : Text) → Line
  SetCell : (name : Text) → (bit : Bool) → Line
  SetPort : (name : Text) → (bit : Bool) → Line
  End : Line

abbrev pub bit_of : Text → Option Bool
bit_of word = if bytes_eq word (codes "0") then Some false else if bytes_eq word (codes "1") then Some true else None

-- the version of a text that a word tells, if there is such a version
abbrev pub version_of : Text → Option ℕ
version_of number = if bytes_eq number (codes "1") then Some 1 else if bytes_eq number (codes "2") then Some 2 else None

-- `version 1|2`, `cube NAME CLOCK`, `cube NAME CLOCK CLOCK`, `cell NAME 0|1`, `port NAME 0|1` and `end`
abbrev pub line_of : List Text → Option Line
line_of [] = None
line_of (word ∷ []) = if bytes_eq word (codes "end") then Some End else None
line_of (word ∷ name ∷ []) = if bytes_eq word (codes "version") then Some (Version name) else None
line_of (word ∷ name ∷ last ∷ []) =
    if bytes_eq word (codes "cube") then Some (Begin name last) else if bytes_eq word (codes "cell") then option_map (SetCell name) (bit_of last) else if bytes_eq word (codes "port") then option_map (SetPort name) (bit_of last) else None
line_of (word ∷ name ∷ clock ∷ second ∷ []) = if bytes_eq word (codes "cube") then Some (BeginTwo name clock second) else None
line_of (word ∷ name ∷ clock ∷ second ∷ more ∷ words) = None

-- ---- what has been read

-- the version, which is known behind the first line that is not blank; the cubes that have ended, and the one that has not, if there is one
pub record Reading : Type 0 where
  pub version : Option ℕ
  pub cubes : List Cube
  pub pending : Option Cube

-- a text whose first line tells no version is of version 1
abbrev pub or_first : Option ℕ → ℕ
or_first None = 1
or_first (Some version) = version

-- whether one of these names is this one
abbrev pub is_among : List Text → (name : Text) → Bool
is_among names name = list_any (λ other. bytes_eq other name) names

abbrev pub names_of : List Cube → List Text
names_of cubes = map (λ cube. cube.name) cubes

-- the place of a clock among the domains
abbrev pub domain_named : Config → Text → Option ℕ
domain_named config clock = position (λ name. bytes_eq name clock) config.domains

abbrev pub has_cell : Cube → InstanceId → Bool
has_cell cube cell = list_any (λ given. given.0.0 == cell.0) cube.cells

abbrev pub has_port : Cube → NetId → Bool
has_port cube port = list_any (λ given. given.0.0 == port.0) cube.ports

abbrev pub or_zero : Option ℕ → ℕ
or_zero None = 0
or_zero (Some k) = k

-- ---- the first check that a line fails

-- a version line comes first, and there is such a version
abbrev pub version_refusal : (version : Option ℕ) → Place → (number : Text) → Option CubeError
version_refusal None place number = if is_none (version_of number) then Some (Q1 place) else None
version_refusal (Some version) place number = Some (Q1 place)

-- a cube begins: its clock is a domain, its name is new, and it is not one too many
abbrev pub begin_refusal : Config → List Cube → Place → (name clock : Text) → Option CubeError
begin_refusal config cubes place name clock =
    if is_none (domain_named config clock) then Some (Q4 place clock)
    else if has_name (names_of cubes) name then Some (Q5 place name)
    else if nat_le MAX_CUBES (length cubes) then Some (Q9 place)
    else None

-- a cube begins with two clocks, which version 2 has: the first one is a domain, and then the checks are those of the second one
abbrev pub two_refusal : Config → (version : Option ℕ) → List Cube → Place → (name clock second : Text) → Option CubeError
two_refusal config version cubes place name clock second =
    if or_first version == 2 then (if is_none (domain_named config clock) then Some (Q4 place clock) else begin_refusal config cubes place name second) else Some (Q1 place)

-- a cell is a flip-flop that may be scanned, and is given once
abbrev pub cell_refusal : Cube → Place → (name : Text) → Option InstanceId → Option CubeError
cell_refusal cube place name None = Some (Q2 place name)
cell_refusal cube place name (Some cell) = if has_cell cube cell then Some (Q6 place name) else None

-- a port is the bit of an input, is given once, and is no domain and no reset
abbrev pub port_refusal : Config → Cube → Place → (name : Text) → Option NetId → Option CubeError
port_refusal config cube place name None = Some (Q3 place name)
port_refusal config cube place name (Some port) =
    if has_port cube port then Some (Q6 place name) else if (is_among config.domains name || is_among config.resets name) then Some (Q8 place name) else None

-- what a line says, where no cube is pending, and where one is
abbrev pub said_refusal : Netlist → Config → (version : Option ℕ) → List Cube → (pending : Option Cube) → Place → Option Line → Option CubeError
said_refusal n config version cubes pending place None = Some (Q1 place)
said_refusal n config version cubes None place (Some (Version number)) = version_refusal version place number
said_refusal n config version cubes None place (Some (Begin name clock)) = begin_refusal config cubes place name clock
said_refusal n config version cubes None place (Some (BeginTwo name clock second)) = two_refusal config version cubes place name clock second
said_refusal n config version cubes None place (Some (SetCell name bit)) = Some (Q1 place)
said_refusal n config version cubes None place (Some (SetPort name bit)) = Some (Q1 place)
said_refusal n config version cubes None place (Some End) = Some (Q1 place)
said_refusal n config version cubes (Some cube) place (Some (Version number)) = Some (Q1 place)
said_refusal n config version cubes (Some cube) place (Some (Begin name clock)) = Some (Q1 place)
said_refusal n config version cubes (Some cube) place (Some (BeginTwo name clock second)) = Some (Q1 place)
said_refusal n config version cubes (Some cube) place (Some (SetCell name bit)) = cell_refusal cube place name (flip_flop_named n name)
said_refusal n config version cubes (Some cube) place (Some (SetPort name bit)) = port_refusal config cube place name (input_net n name)
said_refusal n config version cubes (Some cube) place (Some End) = None

-- a blank line, or one of a comment alone, says nothing
abbrev pub line_refusal : Netlist → Config → Reading → Place → List Text → Option CubeError
line_refusal n config r place [] = None
line_refusal n config r place (word ∷ words) = if are_printed (word ∷ words) then said_refusal n config r.version r.cubes r.pending place (line_of (word ∷ words)) else Some (Q1 place)

-- ---- what is there behind a line that passes

-- a cube that begins with this clock, and perhaps a second one
abbrev pub begun : Config → (name clock : Text) → (second : Option ℕ) → Cube
begun config name clock second = record { name = name; domains = record { first = or_zero (domain_named config clock); second = second }; cells = []; ports = [] }

-- behind a line that is no version line the version is known; where a cube is pending it was known before
abbrev pub held : (version : Option ℕ) → Option ℕ
held version = Some (or_first version)

abbrev pub with_cell : Cube → Option InstanceId → (bit : Bool) → Cube
with_cell cube None bit = cube
with_cell cube (Some cell) bit = record cube { cells = cube.cells ++ (cell, bit) ∷ [] }

abbrev pub with_port : Cube → Option NetId → (bit : Bool) → Cube
with_port cube None bit = cube
with_port cube (Some port) bit = record cube { ports = cube.ports ++ (port, bit) ∷ [] }

abbrev pub with_said : Netlist → Config → (version : Option ℕ) → List Cube → (pending : Option Cube) → Option Line → Reading
with_said n config version cubes pending None = record { version = held version; cubes = cubes; pending = pending }
with_said n config version cubes pending (Some (Version number)) = record { version = version_of number; cubes = cubes; pending = pending }
with_said n config version cubes pending (Some (Begin name clock)) = record { version = held version; cubes = cubes; pending = Some (begun config name clock None) }
with_said n config version cubes pending (Some (BeginTwo name clock second)) = record { version = held version; cubes = cubes; pending = Some (begun config name clock (domain_named config second)) }
with_said n config version cubes None (Some (SetCell name bit)) = record { version = held version; cubes = cubes; pending = None }
with_said n config version cubes None (Some (SetPort name bit)) = record { version = held version; cubes = cubes; pending = None }
with_said n config version cubes None (Some End) = record { version = held version; cubes = cubes; pending = None }
with_said n config version cubes (Some cube) (Some (SetCell name bit)) = record { version = version; cubes = cubes; pending = Some (with_cell cube (flip_flop_named n name) bit) }
with_said n config version cubes (Some cube) (Some (SetPort name bit)) = record { version = version; cubes = cubes; pending = Some (with_port cube (input_net n name) bit) }
with_said n config version cubes (Some cube) (Some End) = record { version = version; cubes = cubes ++ cube ∷ []; pending = None }

abbrev pub with_line : Netlist → Config → Reading → List Text → Reading
with_line n config r [] = r
with_line n config r (word ∷ words) = with_said n config r.version r.cubes r.pending (line_of (word ∷ words))

-- ---- the text

-- a refusal, or else what comes
abbrev pub or_refused : {T : Type 0} → Option CubeError → Result T CubeError → Result T CubeError
or_refused None later = later
or_refused (Some error) later = Err error

-- the cubes, where the text ends behind a line of this number
abbrev pub ended : (number : ℕ) → List Cube → (pending : Option Cube) → Result (List Cube) CubeError
ended number cubes None = Ok cubes
ended number cubes (Some cube) = Err (Q7 (place_of_line number))

-- the first of these lines that fails decides; the first of them has the number behind this one
unfoldable pub cubes_from : Netlist → Config → Reading → (number : ℕ) → List Text → Result (List Cube) CubeError
cubes_from n config r number [] = ended number r.cubes r.pending
cubes_from n config r number (line ∷ lines) =
    or_refused (line_refusal n config r (place_of_line (suc number)) (words_of line)) (cubes_from n config (with_line n config r (words_of line)) (suc number) lines)

-- the cubes that a text stands for, or its first refusal
abbrev pub cubes_of : Netlist → Config → Text → Result (List Cube) CubeError
cubes_of n config text = cubes_from n config (record { version = None; cubes = []; pending = None }) 0 (lines_of text)

-- ---- refusals

-- this is the check that fails; nothing is said where memory runs out
abbrev pub IsFault : Option CubeError → CubeError → Type 0
IsFault fault (Memory error) = Unit {0}
IsFault fault error = fault ≡ Some error

-- a text whose cubes are told so is refused for this; nothing is said where memory runs out
abbrev pub IsRefused : Result (List Cube) CubeError → CubeError → Type 0
IsRefused told (Memory error) = Unit {0}
IsRefused told error = told ≡ Err error
