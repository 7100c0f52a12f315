-- The refusal of a step is the refusal of the compilation, where the steps before it pass.
use Rattle.std.proofs.Common.{◌≡◌, List, [], ◌∷◌, Option, None, Some, refl, sym, ap, subst}
use Rattle.std.specs.Prelude.{option_map}
use Rattle.dft_netlist.specs.Netlist.{Netlist}
use Rattle.dft_config.specs.Config.{Config}
use Rattle.dft_rules.specs.declared.error.RuleError.{RuleError}
use Rattle.dft_rules.specs.declared.error.RuleError.TheVariants as rule
use Rattle.dft_rules.specs.Refusals as rules
use Rattle.dft_stitch.specs.declared.error.StitchError.{StitchError}
use Rattle.dft_stitch.specs.declared.error.StitchError.TheVariants as stitch_error
use Rattle.dft_stitch.specs.Chains.{plan_of}
use Rattle.dft_stitch.specs.Limits as stitch
use Rattle.dft_stitch.specs.Planning as planning
use Rattle.dft_stitch.specs.declared.planned.PrepareError.{PrepareError}
use Rattle.dft_stitch.specs.declared.planned.PrepareError.TheVariants as prepare_error
use Rattle.dft_stitch.proofs.PlannedLemmas.{by_rules, by_stitch}
use Rattle.dft_scan_frame.specs.declared.error.InsertError.{InsertError}
use Rattle.dft_scan_frame.specs.declared.error.InsertError.TheVariants as insert_error
use Rattle.dft_insert.specs.declared.style.Style.TheVariants.{Edt}
use Rattle.dft_scan_frame.specs.Refusals as frame
use Rattle.dft_insert.specs.Refusals as insert
use Rattle.dft_compile.specs.declared.error.CompileError.{CompileError}
use Rattle.dft_compile.specs.declared.error.CompileError.TheVariants.{Rules, Stitch, Insert}
use Rattle.dft_compile.specs.Errors.{of_rules, of_stitch, of_planning, of_insert}
use Rattle.dft_compile.specs.Refusals.{IsRefusal, first_failing, first_refusal}

rules_first : (more : List (Option CompileError)) (r : Option RuleError) (e : RuleError) → r ≡ Some e → first_failing (option_map Rules r ∷ more) ≡ Some (Rules e)
rules_first more r e is = ap (λ (o : Option RuleError). first_failing (option_map Rules o ∷ more)) is

stitch_first : (more : List (Option CompileError)) (r : Option StitchError) (e : StitchError) → r ≡ Some e → first_failing (option_map Stitch r ∷ more) ≡ Some (Stitch e)
stitch_first more r e is = ap (λ (o : Option StitchError). first_failing (option_map Stitch o ∷ more)) is

insert_first : (more : List (Option CompileError)) (r : Option InsertError) (e : InsertError) → r ≡ Some e → first_failing (option_map Insert r ∷ more) ≡ Some (Insert e)
insert_first more r e is = ap (λ (o : Option InsertError). first_failing (option_map Insert o ∷ more)) is

rules_refused : (more : List (Option CompileError)) (r : Option RuleError) (e : RuleError) → rules.IsRefusal r e → IsRefusal (first_failing (option_map Rules r ∷ more)) (of_rules e)
rules_refused more r (rule.ClockAsData net) is = rules_first more r (rule.ClockAsData net) is
rules_refused more r (rule.ScanCellPresent instance) is = rules_first more r (rule.ScanCellPresent instance) is
rules_refused more r (rule.TooFewCells found wanted) is = rules_first more r (rule.TooFewCells found wanted) is
rules_refused more r (rule.UnknownName name) is = rules_first more r (rule.UnknownName name) is
rules_refused more r (rule.LockupPresent instance) is = rules_first more r (rule.LockupPresent instance) is
rules_refused more r (rule.PortName name) is = rules_first more r (rule.PortName name) is
rules_refused more r (rule.Memory error) is = _

stitch_refused : (more : List (Option CompileError)) (r : Option StitchError) (e : StitchError) → stitch.IsRefusal r e → IsRefusal (first_failing (option_map Stitch r ∷ more)) (of_stitch e)
stitch_refused more r (stitch_error.TooMany what limit) is = stitch_first more r (stitch_error.TooMany what limit) is
stitch_refused more r (stitch_error.Memory error) is = _

insert_refused : (more : List (Option CompileError)) (r : Option InsertError) (e : InsertError) → frame.IsRefusal r e → IsRefusal (first_failing (option_map Insert r ∷ more)) (of_insert e)
insert_refused more r (insert_error.NameClash name) is = insert_first more r (insert_error.NameClash name) is
insert_refused more r (insert_error.TooMany what limit) is = insert_first more r (insert_error.TooMany what limit) is
insert_refused more r (insert_error.Memory error) is = _

after_rules : (more : List (Option CompileError)) (r : Option RuleError) (e : CompileError) → r ≡ None → IsRefusal (first_failing more) e → IsRefusal (first_failing (option_map Rules r ∷ more)) e
after_rules more r e none h = let P : Option RuleError → Type 0 = λ o. IsRefusal (first_failing (option_map Rules o ∷ more)) e in subst P (sym none) h

after_stitch : (more : List (Option CompileError)) (r : Option StitchError) (e : CompileError) → r ≡ None → IsRefusal (first_failing more) e → IsRefusal (first_failing (option_map Stitch r ∷ more)) e
after_stitch more r e none h = let P : Option StitchError → Type 0 = λ o. IsRefusal (first_failing (option_map Stitch o ∷ more)) e in subst P (sym none) h

-- the checks behind the scan rules, and behind the plan
abbrev insert_checks : Netlist → Config → List (Option CompileError)
insert_checks n config = option_map Insert (insert.refusal Edt n config (plan_of n config)) ∷ []

abbrev stitch_checks : Netlist → Config → List (Option CompileError)
stitch_checks n config = option_map Stitch (stitch.refusal n config) ∷ insert_checks n config

pub refused_by_rules : (n : Netlist) (config : Config) (e : RuleError) → rules.IsRefusal (rules.refusal n config) e → IsRefusal (first_refusal n config) (of_rules e)
refused_by_rules n config e h = rules_refused (stitch_checks n config) (rules.refusal n config) e h

pub refused_by_stitch : (n : Netlist) (config : Config) (e : StitchError) → rules.refusal n config ≡ None → stitch.IsRefusal (stitch.refusal n config) e → IsRefusal (first_refusal n config) (of_stitch e)
refused_by_stitch n config e r h = after_rules (stitch_checks n config) (rules.refusal n config) (of_stitch e) r (stitch_refused (insert_checks n config) (stitch.refusal n config) e h)

-- a refusal of planning is that of these two checks and more
pub planning_refused : (n : Netlist) (config : Config) (more : List (Option CompileError)) (e : PrepareError) → planning.IsRefusal (planning.refusal n config) e →
    IsRefusal (first_failing (option_map Rules (rules.refusal n config) ∷ option_map Stitch (stitch.refusal n config) ∷ more)) (of_planning e)
planning_refused n config more (prepare_error.Rules e) h =
    rules_first (option_map Stitch (stitch.refusal n config) ∷ more) (rules.refusal n config) e (by_rules (rules.refusal n config) (stitch.refusal n config) e h)
planning_refused n config more (prepare_error.Stitch e) h =
    let both = by_stitch (rules.refusal n config) (stitch.refusal n config) e h in
    after_rules (option_map Stitch (stitch.refusal n config) ∷ more) (rules.refusal n config) (Stitch e) both.0 (stitch_first more (stitch.refusal n config) e both.1)
planning_refused n config more (prepare_error.Memory e) h = _

pub refused_by_insert : (n : Netlist) (config : Config) (e : InsertError) → rules.refusal n config ≡ None → stitch.refusal n config ≡ None → frame.IsRefusal (insert.refusal Edt n config (plan_of n config)) e → IsRefusal (first_refusal n config) (of_insert e)
refused_by_insert n config e r s h =
    after_rules (stitch_checks n config) (rules.refusal n config) (of_insert e) r
    (after_stitch (insert_checks n config) (stitch.refusal n config) (of_insert e) s (insert_refused [] (insert.refusal Edt n config (plan_of n config)) e h))

-- no check fails
pub passed : (n : Netlist) (config : Config) → rules.refusal n config ≡ None → stitch.refusal n config ≡ None → insert.refusal Edt n config (plan_of n config) ≡ None → first_refusal n config ≡ None
passed n config r s i = rw (r, s, i) refl
