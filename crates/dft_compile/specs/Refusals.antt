-- Why a design is not compiled: the first check that fails, in two parts. Before the cubes are read come the scan rules, the limits of
-- the plan, and what insertion adds; behind them the length of the patterns, and that of the report.
use Rattle.std.specs.Prelude.{ℕ, ◌≡◌, nat_lt, pos, List, [], ◌∷◌, length, Option, None, Some, option_map, if◌then◌else◌}
use Rattle.dft_base.specs.Lexing.{Text}
use Rattle.dft_netlist.specs.Netlist.{Netlist}
use Rattle.dft_config.specs.Config.{Config}
use Rattle.dft_rules.specs.Refusals as rules
use Rattle.dft_stitch.specs.Chains.{plan_of}
use Rattle.dft_stitch.specs.Limits as stitch
use Rattle.dft_equations.specs.LoadRows.{LoadRows}
use Rattle.dft_cubes.specs.declared.cube.Cube.{Cube}
use Rattle.dft_merge.specs.declared.placed.Placed.{Placed}
use Rattle.dft_insert.specs.declared.style.Style.TheVariants.{Edt}
use Rattle.dft_insert.specs.Refusals as insert
use Rattle.dft_insert.specs.Statements.{scanned}
use Rattle.dft_stil_tokens.specs.declared.blanks.TheConstants.{MAX_TEXT}
use Rattle.dft_stil_text.specs.declared.error.StilError.{StilError}
use Rattle.dft_stil_text.specs.declared.error.StilError.TheVariants.{P6}
use Rattle.dft_stil_out.specs.WrittenLength.{written_length}
use Rattle.dft_report.specs.declared.error.ReportError.{ReportError}
use Rattle.dft_report.specs.declared.error.ReportError.TheVariants.{K6}
use Rattle.dft_report.specs.declared.limits.TheConstants.{MAX_BYTES}
use Rattle.dft_vectors.specs.Signals.{signals_of}
use Rattle.dft_cubes.specs.declared.cube.Merged.{Merged}
use Rattle.dft_vectors.specs.VectorList.{captures_in, notes_of}
use Rattle.dft_encode.specs.Compiled.{Placing}
use Rattle.dft_encode.specs.Laws.{vectors_in}
use Rattle.dft_compile.specs.declared.error.CompileError.{CompileError}
use Rattle.dft_compile.specs.declared.error.CompileError.TheVariants.{Rules, Stitch, Insert, Patterns, Report, Memory}
use Rattle.dft_compile.specs.Texts.{report_text}

-- the first that fails
abbrev pub first_failing : List (Option CompileError) → Option CompileError
first_failing [] = None
first_failing (None ∷ checks) = first_failing checks
first_failing (Some error ∷ checks) = Some error

-- ---- before the cubes

abbrev pub first_checks : Netlist → Config → List (Option CompileError)
first_checks n config =
    option_map Rules (rules.refusal n config)
    ∷ option_map Stitch (stitch.refusal n config)
    ∷ option_map Insert (insert.refusal Edt n config (plan_of n config))
    ∷ []

abbrev pub first_refusal : Netlist → Config → Option CompileError
first_refusal n config = first_failing (first_checks n config)

-- the error is this refusal, but for want of memory
abbrev pub IsRefusal : Option CompileError → CompileError → Type 0
IsRefusal refused (Rules error) = refused ≡ Some (Rules error)
IsRefusal refused (Stitch error) = refused ≡ Some (Stitch error)
IsRefusal refused (Insert error) = refused ≡ Some (Insert error)
IsRefusal refused (Patterns error) = refused ≡ Some (Patterns error)
IsRefusal refused (Report error) = refused ≡ Some (Report error)
IsRefusal refused (Memory error) = Unit {0}

-- ---- behind the cubes

-- the bytes of the text of patterns with so many captures each in the signals of this netlist, which are told before any pattern is made
abbrev pub set_bytes : (written : Netlist) → (cycles : ℕ) → (captures : List ℕ) → ℕ
set_bytes written cycles captures = written_length (signals_of written) (vectors_in cycles captures) (notes_of cycles captures)

abbrev pub pattern_bytes : Netlist → Config → List Merged → ℕ
pattern_bytes n config merged = set_bytes (scanned Edt n config) (plan_of n config).cycles (captures_in merged)

-- a pattern text of so many bytes is too long
abbrev pub too_many : (bytes : ℕ) → Option StilError
too_many bytes = if nat_lt MAX_TEXT bytes then Some (P6 (pos bytes)) else None

-- a report of so many bytes is too long
abbrev pub of_length : (bytes : ℕ) → Option ReportError
of_length bytes = if nat_lt MAX_BYTES bytes then Some (K6 (pos bytes)) else None

abbrev pub too_long : Text → Option ReportError
too_long text = of_length (length text)

-- the checks where this became of the cubes, and these are their patterns
abbrev pub late_checks : Netlist → Config → List Cube → LoadRows → List Placed → List Merged → List (Option CompileError)
late_checks n config cubes rows placed merged =
    option_map Patterns (too_many (pattern_bytes n config merged)) ∷ option_map Report (too_long (report_text n config rows cubes placed)) ∷ []

abbrev pub late_refusal : Netlist → Config → List Cube → LoadRows → List Placed → List Merged → Option CompileError
late_refusal n config cubes rows placed merged = first_failing (late_checks n config cubes rows placed merged)

-- the placement of the cubes is refused so
pub record IsRefusedLate (n : Netlist) (config : Config) (cubes : List Cube) (error : CompileError) : Type 0 where
  pub placing : Placing config (plan_of n config) cubes
  pub first : late_refusal n config cubes placing.rows placing.placed placing.merged ≡ Some error

-- the error is that refusal, but for want of memory
abbrev pub IsLate : Netlist → Config → List Cube → CompileError → Type 0
IsLate n config cubes (Rules error) = IsRefusedLate n config cubes (Rules error)
IsLate n config cubes (Stitch error) = IsRefusedLate n config cubes (Stitch error)
IsLate n config cubes (Insert error) = IsRefusedLate n config cubes (Insert error)
IsLate n config cubes (Patterns error) = IsRefusedLate n config cubes (Patterns error)
IsLate n config cubes (Report error) = IsRefusedLate n config cubes (Report error)
IsLate n config cubes (Memory error) = Unit {0}
