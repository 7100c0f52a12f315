-- The written form of a report is read as that report.
use Rattle.std.specs.Prelude.{ℕ, ◌<◌, ◌≤◌, ◌^◌, ◌≡◌, List, [], ◌∷◌, length, Option, None, Some, Ok}
use Rattle.std.specs.List.{AllByRecursion}
use Rattle.dft_base.specs.Lexing.{Text}
use Rattle.dft_base.specs.Name.{IsName}
use Rattle.dft_report.specs.declared.report.Load.{Load}
use Rattle.dft_report.specs.declared.report.Header.{Header}
use Rattle.dft_report.specs.declared.report.ScannedLine.{ScannedLine}
use Rattle.dft_report.specs.declared.report.UnscannedLine.{UnscannedLine}
use Rattle.dft_report.specs.declared.report.Variable.{Variable}
use Rattle.dft_report.specs.declared.report.SumLine.{SumLine}
use Rattle.dft_report.specs.declared.report.CubeLine.{CubeLine}
use Rattle.dft_report.specs.declared.report.CubeLine.TheVariants.{Encoded, Unsolvable, Skipped}
use Rattle.dft_report.specs.declared.report.CubeReport.{CubeReport}
use Rattle.dft_report.specs.declared.report.Report.{Report}
use Rattle.dft_report.specs.Written.{written}
use Rattle.dft_report_reader.specs.Reading.{report_of}

-- a number that a report may have
abbrev pub IsSmall : ℕ → Type 0
IsSmall number = number < 2 ^ 32

abbrev pub IsLoadReadable : Option Load → Type 0
IsLoadReadable None = Unit {0}
IsLoadReadable (Some load) = IsSmall load.cycles × IsSmall load.variables

abbrev pub IsHeaderReadable : Header → Type 0
IsHeaderReadable header = IsSmall header.cells × IsSmall header.chains × IsLoadReadable header.load

abbrev pub IsScannedReadable : ScannedLine → Type 0
IsScannedReadable line = IsName line.name × IsName line.domain × IsSmall line.chain × IsSmall line.place

abbrev pub IsUnscannedReadable : UnscannedLine → Type 0
IsUnscannedReadable line = IsName line.name

abbrev pub IsVariableReadable : Variable → Type 0
IsVariableReadable variable = IsSmall variable.channel × IsSmall variable.cycle

abbrev pub IsSumReadable : SumLine → Type 0
IsSumReadable line = IsName line.name × AllByRecursion IsVariableReadable line.variables

abbrev pub IsOutcomeReadable : CubeLine → Type 0
IsOutcomeReadable (Encoded pattern) = IsSmall pattern
IsOutcomeReadable (Unsolvable sums) = IsSmall (length sums) × AllByRecursion IsSumReadable sums
IsOutcomeReadable (Skipped cell) = IsName cell

abbrev pub IsCubeReadable : CubeReport → Type 0
IsCubeReadable cube = IsName cube.name × IsOutcomeReadable cube.outcome

-- cubes stand where there is a load
abbrev pub HasLoad : Option Load → List CubeReport → Type 0
HasLoad None [] = Unit {0}
HasLoad None (cube ∷ cubes) = ⊥
HasLoad (Some load) cubes = Unit {0}

-- names are names, numbers are below 2^32, and cubes stand where there is a load
pub record IsReadable (r : Report) : Type 0 where
  pub header : IsHeaderReadable r.header
  -- chains are numbered from 0
  pub count : length r.chains ≤ 2 ^ 32
  pub chains : AllByRecursion IsSmall r.chains
  pub scanned : AllByRecursion IsScannedReadable r.scanned
  pub unscanned : AllByRecursion IsUnscannedReadable r.unscanned
  pub cubes : AllByRecursion IsCubeReadable r.cubes
  pub load : HasLoad r.header.load r.cubes

-- So the text of each such report stands for it.
abbrev pub WrittenIsRead : Type 0
WrittenIsRead = (r : Report) → IsReadable r → report_of (written r) ≡ Ok r

-- And no other text is read as it.
abbrev pub ReadIsWritten : Type 0
ReadIsWritten = (text : Text) (r : Report) → report_of text ≡ Ok r → text ≡ written r

-- What is read can be read: so a text is refused by K1 exactly where it is not the written form of such a report.
abbrev pub ReadIsReadable : Type 0
ReadIsReadable = (text : Text) (r : Report) → report_of text ≡ Ok r → IsReadable r
