-- What is tested of a report: that the sums printed for each unsolvable cube are sums of its care bits, and together a certificate.
use Rattle.std.specs.Prelude.{ℕ, ◌+◌, ◌==◌, ◌&&◌, ◌≡◌, Bool, true, false, not, List, [], ◌∷◌, ◌++◌, length, map, find, count_by, Option, None, Some, is_some, option_and_then, unwrap_or, if◌then◌else◌}
use Rattle.std.specs.List.{list_any, list_all, range_with_len}
use Rattle.std.specs.Str.{bytes_eq}
use Rattle.dft_base.specs.Lexing.{Text}
use Rattle.dft_base.specs.Solutions.{bit_at, xor}
use Rattle.dft_netlist.specs.declared.ids.InstanceId.{InstanceId}
use Rattle.dft_netlist.specs.Netlist.{Netlist}
use Rattle.dft_netlist.specs.Names.{find_instance}
use Rattle.dft_config.specs.declared.config.RingConfig.{RingConfig}
use Rattle.dft_cubes.specs.declared.cube.Cube.{Cube}
pub use Rattle.dft_cubes.specs.Cubes.{place_of_line}
use Rattle.dft_merge.specs.Rows.{CellRows}
use Rattle.dft_report.specs.declared.report.CubeLine.{CubeLine}
use Rattle.dft_report.specs.declared.report.CubeLine.TheVariants.{Encoded, Unsolvable, Skipped}
use Rattle.dft_report.specs.declared.report.CubeReport.{CubeReport}
use Rattle.dft_report.specs.declared.report.Report.{Report}
use Rattle.dft_report.specs.declared.report.SumLine.{SumLine}
use Rattle.dft_report.specs.declared.report.Variable.{Variable}
use Rattle.dft_cube_reports.specs.Outcomes.{variables_of}
use Rattle.dft_certify.specs.declared.error.CertifyError.{CertifyError}
use Rattle.dft_certify.specs.declared.error.CertifyError.TheVariants.{K2, K3, K4, K5, Memory}

-- ---- cells

-- the cell of this name, where it has a load equation
abbrev pub if_scanned : CellRows → InstanceId → Option InstanceId
if_scanned row cell = if is_some (row cell) then Some cell else None

abbrev pub scanned_named : Netlist → CellRows → (name : Text) → Option InstanceId
scanned_named n row name = option_and_then (if_scanned row) (find_instance n name)

-- whether a cube gives a cell this bit
abbrev pub is_care : List (InstanceId × Bool) → InstanceId → (bit : Bool) → Bool
is_care cells cell bit = list_any (λ given. (given.0.0 == cell.0) && not (xor given.1 bit)) cells

abbrev pub has_cell : List InstanceId → InstanceId → Bool
has_cell cells cell = list_any (λ other. other.0 == cell.0) cells

-- ---- variables

abbrev pub same_variable : Variable → Variable → Bool
same_variable a b = (a.channel == b.channel) && (a.cycle == b.cycle)

abbrev pub same_variables : List Variable → List Variable → Bool
same_variables [] [] = true
same_variables [] (b ∷ others) = false
same_variables (a ∷ more) [] = false
same_variables (a ∷ more) (b ∷ others) = same_variable a b && same_variables more others

-- ---- a line

-- whether it has the variables that this cell sums
abbrev pub has_variables : RingConfig → CellRows → InstanceId → SumLine → Bool
has_variables ring row cell line = same_variables line.variables (variables_of ring (unwrap_or (row cell) []))

-- whether it is the sum that this cell takes, for a bit that the cube gives it, and the first of the cell
abbrev pub is_sum : RingConfig → CellRows → (cells : List (InstanceId × Bool)) → (before : List InstanceId) → InstanceId → SumLine → Bool
is_sum ring row cells before cell line = is_care cells cell line.bit && (not (has_cell before cell) && has_variables ring row cell line)

-- the first refusal of two
abbrev pub or_later : Option CertifyError → Option CertifyError → Option CertifyError
or_later None later = later
or_later (Some error) later = Some error

abbrev pub at_cell : RingConfig → CellRows → List (InstanceId × Bool) → (before : List InstanceId) → (number : ℕ) → SumLine → Option InstanceId → Option CertifyError
at_cell ring row cells before number line None = Some (K4 (place_of_line number) line.name)
at_cell ring row cells before number line (Some cell) = if is_sum ring row cells before cell line then None else Some (K2 (place_of_line number) line.name)

-- the line with this number
abbrev pub sum_refusal : Netlist → RingConfig → CellRows → List (InstanceId × Bool) → (before : List InstanceId) → (number : ℕ) → SumLine → Option CertifyError
sum_refusal n ring row cells before number line = at_cell ring row cells before number line (scanned_named n row line.name)

-- the cells that were named, with that of a line
abbrev pub and_cell : List InstanceId → Option InstanceId → List InstanceId
and_cell before None = before
and_cell before (Some cell) = before ++ cell ∷ []

-- lines of which the first has this number
abbrev pub sums_refusal : Netlist → RingConfig → CellRows → List (InstanceId × Bool) → (before : List InstanceId) → (number : ℕ) → List SumLine → Option CertifyError
sums_refusal n ring row cells before number [] = None
sums_refusal n ring row cells before number (line ∷ lines) =
    or_later (sum_refusal n ring row cells before number line) (sums_refusal n ring row cells (and_cell before (scanned_named n row line.name)) (number + 1) lines)

-- ---- certificates

-- whether an odd number of the lines pass
abbrev pub odd_in : (SumLine → Bool) → List SumLine → Bool
odd_in test [] = false
odd_in test (line ∷ lines) = xor (test line) (odd_in test lines)

-- whether a column is in the load equation of the cell that a line names
abbrev pub has_column : Netlist → CellRows → (column : ℕ) → SumLine → Bool
has_column n row column line = bit_at (unwrap_or (option_and_then row (scanned_named n row line.name)) []) column

-- no column is in an odd number of them, and their bits sum to 1
abbrev pub is_certificate : Netlist → CellRows → (columns : ℕ) → List SumLine → Bool
is_certificate n row columns lines = odd_in (λ line. line.bit) lines && list_all (λ column. not (odd_in (has_column n row column) lines)) (range_with_len 0 columns)

-- ---- cubes

-- the names of cubes, in order
abbrev pub cube_names : List Cube → List Text
cube_names cubes = map (λ (cube : Cube). cube.name) cubes

abbrev pub cube_named : List Cube → (name : Text) → Option Cube
cube_named cubes name = find (λ cube. bytes_eq cube.name name) cubes

abbrev pub unless_certified : Bool → (name : Text) → Option CertifyError
unless_certified true name = None
unless_certified false name = Some (K3 name)

-- the sums of a cube of this name, whose line has this number
abbrev pub lines_refusal : Netlist → RingConfig → CellRows → (columns : ℕ) → (number : ℕ) → (name : Text) → List SumLine → Option Cube → Option CertifyError
lines_refusal n ring row columns number name lines None = Some (K5 name)
lines_refusal n ring row columns number name lines (Some cube) =
    or_later (sums_refusal n ring row cube.cells [] (number + 1) lines) (unless_certified (is_certificate n row columns lines) name)

abbrev pub outcome_refusal : Netlist → RingConfig → CellRows → (columns : ℕ) → List Cube → (number : ℕ) → (name : Text) → CubeLine → Option CertifyError
outcome_refusal n ring row columns cubes number name (Encoded pattern) = None
outcome_refusal n ring row columns cubes number name (Unsolvable lines) = lines_refusal n ring row columns number name lines (cube_named cubes name)
outcome_refusal n ring row columns cubes number name (Skipped cell) = None

-- how many lines an entry has, and whether it is of an unsolvable cube
abbrev pub outcome_lines : CubeLine → ℕ
outcome_lines (Encoded pattern) = 1
outcome_lines (Unsolvable lines) = 1 + length lines
outcome_lines (Skipped cell) = 1

abbrev pub is_unsolvable : CubeLine → Bool
is_unsolvable (Encoded pattern) = false
is_unsolvable (Unsolvable lines) = true
is_unsolvable (Skipped cell) = false

-- ---- the report

-- entries of which the first has its line at this number
abbrev pub entries_refusal : Netlist → RingConfig → CellRows → (columns : ℕ) → List Cube → (number : ℕ) → List CubeReport → Option CertifyError
entries_refusal n ring row columns cubes number [] = None
entries_refusal n ring row columns cubes number (entry ∷ entries) =
    or_later (outcome_refusal n ring row columns cubes number entry.name entry.outcome) (entries_refusal n ring row columns cubes (number + outcome_lines entry.outcome) entries)

-- the line of the first cube in the written text: behind the title, the counts, the chains and the flip-flops
abbrev pub first_line : Report → ℕ
first_line report = 3 + (length report.chains + (length report.scanned + length report.unscanned))

-- the first check that the report fails
abbrev pub certify_refusal : Netlist → RingConfig → CellRows → (columns : ℕ) → List Cube → Report → Option CertifyError
certify_refusal n ring row columns cubes report = entries_refusal n ring row columns cubes (first_line report) report.cubes

-- this is the check that fails; nothing is said where memory runs out
abbrev pub IsFault : Option CertifyError → CertifyError → Type 0
IsFault fault (Memory error) = Unit {0}
IsFault fault error = fault ≡ Some error

-- how many cubes are reported unsolvable
abbrev pub unsolvable_in : List CubeReport → ℕ
unsolvable_in entries = count_by (λ entry. is_unsolvable entry.outcome) entries
