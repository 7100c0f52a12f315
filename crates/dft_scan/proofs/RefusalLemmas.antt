-- The refusal of a step is the refusal of the scan, where the steps before it pass.
use Rattle.std.proofs.Common.{◌≡◌, ◌<◌, ◌≤◌, ℤ, pos, List, [], ◌∷◌, length, Option, None, Some, Result, Err, IfErr, refl, sym, ◌∙◌, ap, subst}
use Rattle.std.specs.Prelude.{option_map}
use Rattle.std.proofs.lemmas.Bool.{lt-ltb, le-ltb}
use Rattle.dft_base.specs.Lexing.{Text}
use Rattle.dft_netlist.specs.Netlist.{Netlist}
use Rattle.dft_config.specs.Config.{Config}
use Rattle.dft_rules.specs.declared.error.RuleError.{RuleError}
use Rattle.dft_rules.specs.declared.judged.Judged.{Judged}
use Rattle.dft_rules.specs.Rules.{judgements}
use Rattle.dft_rules.specs.Refusals as rules
use Rattle.dft_stitch.specs.declared.error.StitchError.{StitchError}
use Rattle.dft_stitch.specs.declared.planned.PrepareError.{PrepareError}
use Rattle.dft_stitch.specs.declared.planned.PrepareError.TheVariants as prepare_error
use Rattle.dft_stitch.specs.Chains.{plan_of}
use Rattle.dft_stitch.specs.Plans.{Plan}
use Rattle.dft_stitch.specs.Limits as stitch
use Rattle.dft_stitch.specs.Planning as planning
use Rattle.dft_stitch.proofs.PlannedLemmas.{by_rules, by_stitch}
use Rattle.dft_scan_frame.specs.declared.error.InsertError.{InsertError}
use Rattle.dft_scan_frame.specs.declared.error.InsertError.TheVariants as insert_error
use Rattle.dft_insert.specs.declared.style.Style.TheVariants.{Plain}
use Rattle.dft_scan_frame.specs.Refusals as frame
use Rattle.dft_insert.specs.Refusals as insert
use Rattle.dft_report.specs.declared.error.ReportError.{ReportError}
use Rattle.dft_report.specs.declared.error.ReportError.TheVariants as report_error
use Rattle.dft_report.specs.declared.limits.TheConstants.{MAX_BYTES}
use Rattle.dft_report.specs.declared.report.Report.{Report}
use Rattle.dft_report.specs.Refusals as report
use Rattle.dft_scan.specs.declared.error.ScanError.{ScanError}
use Rattle.dft_scan.specs.declared.error.ScanError.TheVariants.{Rules, Stitch, Insert, Memory}
use Rattle.dft_scan.specs.declared.error.ScanError.TheVariants as scan_error
use Rattle.dft_scan.specs.Errors.{of_planning, of_insert, of_report}
use Rattle.dft_scan.specs.Refusals.{IsRefusal, first_failing, refusal, too_long}
use Rattle.dft_scan.specs.Reports.{report_of, report_with}
use Rattle.dft_scan.specs.Scans.{report_text}

-- ---- a step

rules_first : (more : List (Option ScanError)) (r : Option RuleError) (e : RuleError) → r ≡ Some e → first_failing (option_map Rules r ∷ more) ≡ Some (Rules e)
rules_first more r e is = ap (λ (o : Option RuleError). first_failing (option_map Rules o ∷ more)) is

stitch_first : (more : List (Option ScanError)) (r : Option StitchError) (e : StitchError) → r ≡ Some e → first_failing (option_map Stitch r ∷ more) ≡ Some (Stitch e)
stitch_first more r e is = ap (λ (o : Option StitchError). first_failing (option_map Stitch o ∷ more)) is

insert_first : (more : List (Option ScanError)) (r : Option InsertError) (e : InsertError) → r ≡ Some e → first_failing (option_map Insert r ∷ more) ≡ Some (Insert e)
insert_first more r e is = ap (λ (o : Option InsertError). first_failing (option_map Insert o ∷ more)) is

pub insert_refused : (more : List (Option ScanError)) (r : Option InsertError) (e : InsertError) → frame.IsRefusal r e → IsRefusal (first_failing (option_map Insert r ∷ more)) (of_insert e)
insert_refused more r (insert_error.NameClash name) is = insert_first more r (insert_error.NameClash name) is
insert_refused more r (insert_error.TooMany what limit) is = insert_first more r (insert_error.TooMany what limit) is
insert_refused more r (insert_error.Memory error) is = _

-- ---- the length of the report

is_too_long : (text : Text) (bytes : ℤ) → MAX_BYTES < length text → bytes ≡ pos (length text) → too_long text ≡ Some (report_error.K6 bytes)
is_too_long text bytes more is = rw (is, lt-ltb MAX_BYTES (length text) more) refl

pub report_refused : (text : Text) (e : ReportError) → report.IsTooLong text e → IsRefusal (first_failing (option_map scan_error.Report (too_long text) ∷ [])) (of_report e)
report_refused text (report_error.K6 bytes) is = ap (λ (o : Option ReportError). first_failing (option_map scan_error.Report o ∷ [])) (is_too_long text bytes is.0 is.1)
report_refused text (report_error.Memory error) is = _

-- ---- the steps in their order

after_rules : (more : List (Option ScanError)) (r : Option RuleError) (e : ScanError) → r ≡ None → IsRefusal (first_failing more) e → IsRefusal (first_failing (option_map Rules r ∷ more)) e
after_rules more r e none h = let P : Option RuleError → Type 0 = λ o. IsRefusal (first_failing (option_map Rules o ∷ more)) e in subst P (sym none) h

after_stitch : (more : List (Option ScanError)) (r : Option StitchError) (e : ScanError) → r ≡ None → IsRefusal (first_failing more) e → IsRefusal (first_failing (option_map Stitch r ∷ more)) e
after_stitch more r e none h = let P : Option StitchError → Type 0 = λ o. IsRefusal (first_failing (option_map Stitch o ∷ more)) e in subst P (sym none) h

after_insert : (more : List (Option ScanError)) (r : Option InsertError) (e : ScanError) → r ≡ None → IsRefusal (first_failing more) e → IsRefusal (first_failing (option_map Insert r ∷ more)) e
after_insert more r e none h = let P : Option InsertError → Type 0 = λ o. IsRefusal (first_failing (option_map Insert o ∷ more)) e in subst P (sym none) h

-- the checks behind the scan rules, behind the plan, and behind insertion
abbrev pub report_checks : Netlist → Config → List (Option ScanError)
report_checks n config = option_map scan_error.Report (too_long (report_text n config)) ∷ []

abbrev pub insert_checks : Netlist → Config → List (Option ScanError)
insert_checks n config = option_map Insert (insert.refusal Plain n config (plan_of n config)) ∷ report_checks n config

abbrev pub stitch_checks : Netlist → Config → List (Option ScanError)
stitch_checks n config = option_map Stitch (stitch.refusal n config) ∷ insert_checks n config

pub refused_by_planning : (n : Netlist) (config : Config) (e : PrepareError) → planning.IsRefusal (planning.refusal n config) e → IsRefusal (refusal n config) (of_planning e)
refused_by_planning n config (prepare_error.Rules e) h =
    rules_first (stitch_checks n config) (rules.refusal n config) e (by_rules (rules.refusal n config) (stitch.refusal n config) e h)
refused_by_planning n config (prepare_error.Stitch e) h =
    let both = by_stitch (rules.refusal n config) (stitch.refusal n config) e h in
    after_rules (stitch_checks n config) (rules.refusal n config) (scan_error.Stitch e) both.0 (stitch_first (insert_checks n config) (stitch.refusal n config) e both.1)
refused_by_planning n config (prepare_error.Memory e) h = _

pub refused_by_insert : (n : Netlist) (config : Config) (e : InsertError) → rules.refusal n config ≡ None → stitch.refusal n config ≡ None → frame.IsRefusal (insert.refusal Plain n config (plan_of n config)) e → IsRefusal (refusal n config) (of_insert e)
refused_by_insert n config e r s h =
    after_rules (stitch_checks n config) (rules.refusal n config) (of_insert e) r
    (after_stitch (insert_checks n config) (stitch.refusal n config) (of_insert e) s
    (insert_refused (report_checks n config) (insert.refusal Plain n config (plan_of n config)) e h))

pub refused_by_report : (n : Netlist) (config : Config) (e : ReportError) → rules.refusal n config ≡ None → stitch.refusal n config ≡ None → insert.refusal Plain n config (plan_of n config) ≡ None →
    report.IsTooLong (report_text n config) e → IsRefusal (refusal n config) (of_report e)
refused_by_report n config e r s i h =
    after_rules (stitch_checks n config) (rules.refusal n config) (of_report e) r
    (after_stitch (insert_checks n config) (stitch.refusal n config) (of_report e) s
    (after_insert (report_checks n config) (insert.refusal Plain n config (plan_of n config)) (of_report e) i
    (report_refused (report_text n config) e h)))

-- no check fails
pub passed : (n : Netlist) (config : Config) → rules.refusal n config ≡ None → stitch.refusal n config ≡ None → insert.refusal Plain n config (plan_of n config) ≡ None → length (report_text n config) ≤ MAX_BYTES →
    refusal n config ≡ None
passed n config r s i le = rw (r, s, i, le-ltb MAX_BYTES (length (report_text n config)) le) refl

-- ---- what a step answers

-- an error that is turned into this one is this refusal
pub err_refused : {T : Type 0} (refused : Option ScanError) (r : Result T ScanError) (y e : ScanError) → r ≡ Err y → y ≡ e → IsRefusal refused e → IfErr r (IsRefusal refused)
err_refused refused r y e is same h = rw (is, same) h

-- the report of these judgements and this plan
pub report_is : (n : Netlist) (config : Config) (verdicts : List (Option Judged)) (plan : Plan) (r : Report) → verdicts ≡ judgements n config → plan ≡ plan_of n config → r ≡ report_with n config verdicts plan.chains → r ≡ report_of n config
report_is n config verdicts plan r v p is =
    is
    ∙ ap (λ (vs : List (Option Judged)). report_with n config vs plan.chains) v
    ∙ ap (λ (q : Plan). report_with n config (judgements n config) q.chains) p
