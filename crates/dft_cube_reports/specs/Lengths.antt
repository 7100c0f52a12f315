-- The length of the lines of cubes, told before they are kept.
use Rattle.std.specs.Prelude.{ℕ, List, length, Option, None, Some}
use Rattle.std.specs.List.{sum_by}
use Rattle.dft_report.specs.declared.report.CubeReport.{CubeReport}
use Rattle.dft_report.specs.Written.{cube_lines}

-- the bytes of the lines of cubes
abbrev pub lines_length : List CubeReport → ℕ
lines_length reports = sum_by (λ report. length (cube_lines report)) reports

-- those of one cube, if it has any
abbrev pub option_length : Option CubeReport → ℕ
option_length None = 0
option_length (Some report) = length (cube_lines report)
