-- Texts of a compilation that no check refuses are within their limits.
use Rattle.std.proofs.Common.{ℕ, ◌≡◌, ◌≤◌, Bool, true, false, nat_lt, List, [], ◌∷◌, length, Option, None, Some, option_map, refl, arith}
use Rattle.std.specs.Prelude.{if◌then◌else◌}
use Rattle.std.proofs.lemmas.Bool.Decides.{nat_tests}
use Rattle.dft_netlist.specs.Netlist.{Netlist}
use Rattle.dft_config.specs.Config.{Config}
use Rattle.dft_stitch.specs.Chains.{plan_of}
use Rattle.dft_cubes.specs.declared.cube.Cube.{Cube}
use Rattle.dft_stil_text.specs.declared.error.StilError.{StilError}
use Rattle.dft_report.specs.declared.error.ReportError.{ReportError}
use Rattle.dft_vectors.specs.PatternData.{PatternData}
use Rattle.dft_encode.specs.Compiled.{Placing}
use Rattle.dft_compile.specs.declared.error.CompileError.{CompileError}
use Rattle.dft_compile.specs.declared.error.CompileError.TheVariants.{Patterns, Report}
use Rattle.dft_compile.specs.Refusals.{first_failing, too_long, too_many}
use Rattle.dft_compile.specs.Texts.{pattern_text, report_text}
use Rattle.dft_top.specs.declared.limits.TheConstants.{MAX_PATTERN_BYTES, MAX_REPORT_BYTES}
use Rattle.dft_top.specs.Outcomes.{refusal_of}

not_less : (limit bytes : ℕ) → nat_lt limit bytes ≡ false → bytes ≤ limit
not_less = grind (arith, nat_tests)

-- what is refused past a limit, and is not refused, is within it
pub within : {E : Type 0} (limit bytes : ℕ) (error : E) (t : Bool) → nat_lt limit bytes ≡ t → (if t then Some error else None) ≡ None → bytes ≤ limit
within limit bytes error true is none = absurd cc
within limit bytes error false is none = not_less limit bytes is

neither : (a : Option StilError) (b : Option ReportError) → first_failing (option_map Patterns a ∷ option_map Report b ∷ []) ≡ None → (a ≡ None) × (b ≡ None)
neither None None none = (refl, refl)
neither None (Some error) none = absurd cc
neither (Some error) b none = absurd cc

pub late_short : (n : Netlist) (config : Config) (cubes : List Cube) (placing : Placing config (plan_of n config) cubes) (list : List PatternData) → refusal_of n config cubes placing list ≡ None →
    (length (pattern_text n config list) ≤ MAX_PATTERN_BYTES) × (length (report_text n config placing.rows cubes placing.placed) ≤ MAX_REPORT_BYTES)
late_short n config cubes placing list none =
    let text = pattern_text n config list in
    let report = report_text n config placing.rows cubes placing.placed in
    let both = neither (too_many (length text)) (too_long report) none in
    (within MAX_PATTERN_BYTES (length text) _ (nat_lt MAX_PATTERN_BYTES (length text)) refl both.0, within MAX_REPORT_BYTES (length report) _ (nat_lt MAX_REPORT_BYTES (length report)) refl both.1)

-- ---- the first checks

pub checks_before : (a b c : Option CompileError) → first_failing (a ∷ b ∷ c ∷ []) ≡ None → first_failing (a ∷ b ∷ []) ≡ None
checks_before None None c none = refl
checks_before None (Some error) c none = absurd cc
checks_before (Some error) b c none = absurd cc
