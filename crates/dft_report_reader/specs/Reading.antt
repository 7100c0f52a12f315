-- Reports as their texts are read: line by line, to the first line that is not of the form.
use Rattle.std.specs.Prelude.{ℕ, suc, ◌-◌, ◌==◌, ◌&&◌, ◌≡◌, Bool, List, [], ◌∷◌, ◌++◌, length, take, get_or, nat_le, is_none, is_some, Option, None, Some, Result, Ok, Err, if◌then◌else◌}
use Rattle.dft_base.specs.Lexing.{Text}
pub use Rattle.dft_word_lines.specs.Lines.{place_of_line}
use Rattle.dft_report.specs.declared.report.Header.{Header}
use Rattle.dft_report.specs.declared.report.ScannedLine.{ScannedLine}
use Rattle.dft_report.specs.declared.report.UnscannedLine.{UnscannedLine}
use Rattle.dft_report.specs.declared.report.Variable.{Variable}
use Rattle.dft_report.specs.declared.report.SumLine.{SumLine}
use Rattle.dft_report.specs.declared.report.CubeLine.{CubeLine}
use Rattle.dft_report.specs.declared.report.CubeLine.TheVariants as outcome
use Rattle.dft_report.specs.declared.report.CubeReport.{CubeReport}
use Rattle.dft_report.specs.declared.report.Report.{Report}
use Rattle.dft_report_reader.specs.declared.error.ReadError.{ReadError}
use Rattle.dft_report_reader.specs.declared.error.ReadError.TheVariants.{K1, Memory}
use Rattle.dft_report_reader.specs.Words.{lines_of, words_of}
use Rattle.dft_report_reader.specs.Saying.{Said, Title, Counts, Chain, Scanned, Unscanned, Encoded, Unsolvable, Skipped, Sum, said_of, variables_of}

-- an unsolvable cube, its sums so far, and how many are to come
pub record Owing : Type 0 where
  pub name : Text
  pub sums : List SumLine
  pub owed : ℕ

-- What has been read, and up to which kind of lines: 0 none, 1 the title, 2 the counts and chains, 3 scanned and 4 unscanned
-- flip-flops, 5 cubes.
pub record Reading : Type 0 where
  pub header : Header
  pub chains : List ℕ
  pub scanned : List ScannedLine
  pub unscanned : List UnscannedLine
  pub cubes : List CubeReport
  pub owing : Option Owing
  pub stage : ℕ

abbrev pub nothing_read : Reading
nothing_read = record { header = record { cells = 0; chains = 0; load = None }; chains = []; scanned = []; unscanned = []; cubes = []; owing = None; stage = 0 }

-- ---- a line more

abbrev pub with_title : Reading → Option Reading
with_title r = if r.stage == 0 then Some (record r { stage = 1 }) else None

abbrev pub with_counts : Reading → Header → Option Reading
with_counts r header = if r.stage == 1 then Some (record r { header = header; stage = 2 }) else None

-- chains are numbered from 0 in order
abbrev pub with_chain : Reading → (chain size : ℕ) → Option Reading
with_chain r chain size = if (r.stage == 2) && (chain == length r.chains) then Some (record r { chains = r.chains ++ size ∷ [] }) else None

abbrev pub with_scanned : Reading → ScannedLine → Option Reading
with_scanned r line = if nat_le 2 r.stage && nat_le r.stage 3 then Some (record r { scanned = r.scanned ++ line ∷ []; stage = 3 }) else None

abbrev pub with_unscanned : Reading → UnscannedLine → Option Reading
with_unscanned r line = if nat_le 2 r.stage && nat_le r.stage 4 then Some (record r { unscanned = r.unscanned ++ line ∷ []; stage = 4 }) else None

-- cubes stand where there is a load, and behind all sums of the cube before
abbrev pub may_be_cube : Reading → Bool
may_be_cube r = nat_le 2 r.stage && is_none r.owing && is_some r.header.load

abbrev pub with_cube : Reading → (name : Text) → CubeLine → Option Reading
with_cube r name outcome = if may_be_cube r then Some (record r { cubes = r.cubes ++ record { name = name; outcome = outcome } ∷ []; stage = 5 }) else None

abbrev pub with_owing : Reading → (name : Text) → (sums : ℕ) → Option Reading
with_owing r name sums = if may_be_cube r then Some (record r { owing = Some (record { name = name; sums = []; owed = sums }); stage = 5 }) else None

abbrev pub with_unsolvable : Reading → (name : Text) → (sums : ℕ) → Option Reading
with_unsolvable r name sums = if sums == 0 then with_cube r name (outcome.Unsolvable []) else with_owing r name sums

-- one sum more of an unsolvable cube, and with the last one the cube
abbrev pub summed : Reading → Owing → SumLine → Reading
summed r o line =
    if nat_le o.owed 1 then record r { cubes = r.cubes ++ record { name = o.name; outcome = outcome.Unsolvable (o.sums ++ line ∷ []) } ∷ []; owing = None }
    else record r { owing = Some (record { name = o.name; sums = o.sums ++ line ∷ []; owed = o.owed - 1 }) }

abbrev pub with_sum : Reading → Option Owing → (name : Text) → (bit : Bool) → Option (List Variable) → Option Reading
with_sum r None name bit variables = None
with_sum r (Some o) name bit None = None
with_sum r (Some o) name bit (Some variables) = Some (summed r o (record { name = name; bit = bit; variables = variables }))

-- what is read with what a line says, where it may stand there
abbrev pub with_said : Reading → Option Said → Option Reading
with_said r None = None
with_said r (Some Title) = with_title r
with_said r (Some (Counts header)) = with_counts r header
with_said r (Some (Chain chain size)) = with_chain r chain size
with_said r (Some (Scanned name domain chain place falling)) = with_scanned r (record { name = name; domain = domain; chain = chain; place = place; falling = falling })
with_said r (Some (Unscanned name rule)) = with_unscanned r (record { name = name; rule = rule })
with_said r (Some (Encoded name pattern)) = with_cube r name (outcome.Encoded pattern)
with_said r (Some (Unsolvable name sums)) = with_unsolvable r name sums
with_said r (Some (Skipped name cell)) = with_cube r name (outcome.Skipped cell)
with_said r (Some (Sum name bit variables)) = with_sum r r.owing name bit (variables_of variables)

-- ---- the text

abbrev pub then_lines : (number : ℕ) → Option Reading → (Reading → Result Reading ReadError) → Result Reading ReadError
then_lines number None later = Err (K1 (place_of_line number))
then_lines number (Some r) later = later r

-- what these lines leave, or the first that is not of the form; the first of them has the number behind this one
abbrev pub read_lines : Reading → (number : ℕ) → List Text → Result Reading ReadError
read_lines r number [] = Ok r
read_lines r number (line ∷ lines) = then_lines (suc number) (with_said r (said_of (words_of line))) (λ s. read_lines s (suc number) lines)

abbrev pub report_in : Reading → Report
report_in r = record { header = r.header; chains = r.chains; scanned = r.scanned; unscanned = r.unscanned; cubes = r.cubes }

-- behind the last byte 10 nothing stands, and all that was begun is there
abbrev pub ended : (number : ℕ) → (last : Text) → Reading → Result Report ReadError
ended number last r = if nat_le (length last) 0 && nat_le 2 r.stage && is_none r.owing then Ok (report_in r) else Err (K1 (place_of_line number))

abbrev pub then_ended : (number : ℕ) → (last : Text) → Result Reading ReadError → Result Report ReadError
then_ended number last (Err error) = Err error
then_ended number last (Ok r) = ended number last r

-- of lines of which the last one follows the last byte 10
abbrev pub report_by : List Text → Result Report ReadError
report_by lines = let last = length lines - 1 in then_ended (suc last) (get_or lines last []) (read_lines nothing_read 0 (take last lines))

-- the report that a text stands for, or the first line that is not of the form
abbrev pub report_of : Text → Result Report ReadError
report_of text = report_by (lines_of text)

-- a text that is told so is refused for this; nothing is said where memory runs out
abbrev pub IsRefused : {T : Type 0} → Result T ReadError → ReadError → Type 0
IsRefused told (K1 place) = told ≡ Err (K1 place)
IsRefused told (Memory error) = Unit {0}
