-- The refusals behind the placement of the cubes.
use Rattle.std.proofs.Common.{◌≡◌, ◌<◌, ◌≤◌, ℕ, ℤ, pos, List, [], ◌∷◌, length, Option, None, Some, Result, Err, IfErr, refl, sym, ◌∙◌, ap, subst, arith}
use Rattle.std.specs.Prelude.{option_map}
use Rattle.std.proofs.lemmas.Bool.{lt-ltb, le-ltb}
use Rattle.dft_base.specs.Lexing.{Text}
use Rattle.dft_netlist.specs.Netlist.{Netlist}
use Rattle.dft_config.specs.Config.{Config}
use Rattle.dft_equations.specs.LoadRows.{LoadRows}
use Rattle.dft_cubes.specs.declared.cube.Cube.{Cube}
use Rattle.dft_cubes.specs.declared.cube.Merged.{Merged}
use Rattle.dft_merge.specs.declared.placed.Placed.{Placed}
use Rattle.dft_stil_tokens.specs.declared.blanks.TheConstants.{MAX_TEXT}
use Rattle.dft_stil_text.specs.declared.error.StilError.{StilError}
use Rattle.dft_stil_text.specs.declared.error.StilError.TheVariants as stil
use Rattle.dft_stil_out.specs.Lengths.{TellsLength}
use Rattle.dft_report.specs.declared.error.ReportError.{ReportError}
use Rattle.dft_report.specs.declared.error.ReportError.TheVariants as report_error
use Rattle.dft_report.specs.declared.limits.TheConstants.{MAX_BYTES}
use Rattle.dft_report.specs.Refusals as report
use Rattle.dft_compile.specs.declared.error.CompileError.{CompileError}
use Rattle.dft_compile.specs.declared.error.CompileError.TheVariants.{Rules, Stitch, Insert, Patterns, Report, Memory}
use Rattle.dft_compile.specs.Errors.{of_patterns, of_report}
use Rattle.dft_stitch.specs.Chains.{plan_of}
use Rattle.dft_encode.specs.Compiled.{Placing}
use Rattle.dft_compile.specs.Refusals.{IsLate, IsRefusal, first_failing, late_refusal, of_length, pattern_bytes, too_long, too_many}
use Rattle.dft_compile.specs.Texts.{report_text}

-- ---- lengths

pub is_many : (bytes : ℕ) → MAX_TEXT < bytes → too_many bytes ≡ Some (stil.P6 (pos bytes))
is_many bytes more = rw (lt-ltb MAX_TEXT bytes more) refl

pub not_many : (bytes : ℕ) → bytes ≤ MAX_TEXT → too_many bytes ≡ None
not_many bytes few = rw (le-ltb MAX_TEXT bytes few) refl

pub is_long : (bytes : ℕ) → MAX_BYTES < bytes → of_length bytes ≡ Some (report_error.K6 (pos bytes))
is_long bytes more = rw (lt-ltb MAX_BYTES bytes more) refl

pub not_long : (bytes : ℕ) → bytes ≤ MAX_BYTES → of_length bytes ≡ None
not_long bytes few = rw (le-ltb MAX_BYTES bytes few) refl

-- an error of the writer of reports is the refusal of the text
pub report_refused : (text : Text) (e : ReportError) → report.IsTooLong text e → IsRefusal (option_map Report (too_long text)) (of_report e)
report_refused text (report_error.K6 bytes) is = ap (option_map Report) (is_long (length text) is.0) ∙ ap (λ (b : ℤ). Some (Report (report_error.K6 b))) (sym is.1)
report_refused text (report_error.Memory error) is = _

-- a text of patterns that is short enough is refused for want of memory alone
pub short_refused : (text : Text) (e : StilError) → length text ≤ MAX_TEXT → TellsLength text e → IsRefusal None (of_patterns e)
short_refused text (stil.P6 bytes) short tells = absurd (omega (arith, short, tells.1))
short_refused text (stil.Memory error) short tells = _
short_refused text (stil.P1 place) short tells = absurd tells
short_refused text (stil.P2 place name) short tells = absurd tells
short_refused text (stil.P3 place name) short tells = absurd tells
short_refused text (stil.P4 place) short tells = absurd tells
short_refused text (stil.P5 place) short tells = absurd tells
short_refused text (stil.P8 place) short tells = absurd tells
short_refused text (stil.P9 place name) short tells = absurd tells
short_refused text (stil.P10 vector name) short tells = absurd tells

-- ---- the checks in their order

-- the first check's refusal is that of all
pub first_is : (first : Option CompileError) (more : List (Option CompileError)) (e : CompileError) → IsRefusal first e → IsRefusal (first_failing (first ∷ more)) e
first_is first more (Rules error) is = ap (λ (o : Option CompileError). first_failing (o ∷ more)) is
first_is first more (Stitch error) is = ap (λ (o : Option CompileError). first_failing (o ∷ more)) is
first_is first more (Insert error) is = ap (λ (o : Option CompileError). first_failing (o ∷ more)) is
first_is first more (Patterns error) is = ap (λ (o : Option CompileError). first_failing (o ∷ more)) is
first_is first more (Report error) is = ap (λ (o : Option CompileError). first_failing (o ∷ more)) is
first_is first more (Memory error) is = _

pub by_patterns : (n : Netlist) (config : Config) (cubes : List Cube) (rows : LoadRows) (placed : List Placed) (merged : List Merged) (e : CompileError) → IsRefusal (option_map Patterns (too_many (pattern_bytes n config merged))) e →
    IsRefusal (late_refusal n config cubes rows placed merged) e
by_patterns n config cubes rows placed merged e is =
    first_is (option_map Patterns (too_many (pattern_bytes n config merged))) (option_map Report (too_long (report_text n config rows cubes placed)) ∷ []) e is

pub by_report : (n : Netlist) (config : Config) (cubes : List Cube) (rows : LoadRows) (placed : List Placed) (merged : List Merged) (e : CompileError) → pattern_bytes n config merged ≤ MAX_TEXT →
    IsRefusal (option_map Report (too_long (report_text n config rows cubes placed))) e → IsRefusal (late_refusal n config cubes rows placed merged) e
by_report n config cubes rows placed merged e short is =
    let checks = option_map Report (too_long (report_text n config rows cubes placed)) ∷ [] in
    let P : Option StilError → Type 0 = λ o. IsRefusal (first_failing (option_map Patterns o ∷ checks)) e in
    subst P (sym (not_many (pattern_bytes n config merged) short)) (first_is (option_map Report (too_long (report_text n config rows cubes placed))) [] e is)

-- no check fails
pub late_passed : (n : Netlist) (config : Config) (cubes : List Cube) (rows : LoadRows) (placed : List Placed) (merged : List Merged) → pattern_bytes n config merged ≤ MAX_TEXT → length (report_text n config rows cubes placed) ≤ MAX_BYTES →
    late_refusal n config cubes rows placed merged ≡ None
late_passed n config cubes rows placed merged short few =
    let P : Option StilError → Type 0 = λ o. first_failing (option_map Patterns o ∷ option_map Report (too_long (report_text n config rows cubes placed)) ∷ []) ≡ None in
    let Q : Option ReportError → Type 0 = λ o. first_failing (option_map Report o ∷ []) ≡ None in
    subst P (sym (not_many (pattern_bytes n config merged) short)) (subst Q (sym (not_long (length (report_text n config rows cubes placed)) few)) refl)

-- a refusal of a placement
pub is_late : (n : Netlist) (config : Config) (cubes : List Cube) (p : Placing config (plan_of n config) cubes) (e : CompileError) → IsRefusal (late_refusal n config cubes p.rows p.placed p.merged) e → IsLate n config cubes e
is_late n config cubes p (Rules error) is = record { placing = p; first = is }
is_late n config cubes p (Stitch error) is = record { placing = p; first = is }
is_late n config cubes p (Insert error) is = record { placing = p; first = is }
is_late n config cubes p (Patterns error) is = record { placing = p; first = is }
is_late n config cubes p (Report error) is = record { placing = p; first = is }
is_late n config cubes p (Memory error) is = _

-- for want of memory alone nothing is said of the checks
pub memory_alone : (refused : Option CompileError) (e : CompileError) → IsRefusal None e → IsRefusal refused e
memory_alone refused (Rules error) is = absurd (let f : ⊥ = cc in f)
memory_alone refused (Stitch error) is = absurd (let f : ⊥ = cc in f)
memory_alone refused (Insert error) is = absurd (let f : ⊥ = cc in f)
memory_alone refused (Patterns error) is = absurd (let f : ⊥ = cc in f)
memory_alone refused (Report error) is = absurd (let f : ⊥ = cc in f)
memory_alone refused (Memory error) is = _

-- an error that is turned into this one is this refusal
pub err_refused : {T : Type 0} (refused : Option CompileError) (r : Result T CompileError) (y e : CompileError) → r ≡ Err y → y ≡ e → IsRefusal refused e → IfErr r (IsRefusal refused)
err_refused refused r y e is same h = rw (is, same) h
