-- The refusal of planning is that of its first step that fails.
use Rattle.std.proofs.Common.{◌≡◌, [], ◌∷◌, Option, None, Some, refl, ap, subst, sym}
use Rattle.std.specs.Prelude.{option_map}
use Rattle.dft_netlist.specs.Netlist.{Netlist}
use Rattle.dft_config.specs.Config.{Config}
use Rattle.dft_rules.specs.declared.error.RuleError.{RuleError}
use Rattle.dft_rules.specs.declared.error.RuleError.TheVariants as rule
use Rattle.dft_rules.specs.Refusals as rules
use Rattle.dft_stitch.specs.declared.error.StitchError.{StitchError}
use Rattle.dft_stitch.specs.declared.error.StitchError.TheVariants as stitch
use Rattle.dft_stitch.specs.declared.planned.PrepareError.{PrepareError}
use Rattle.dft_stitch.specs.declared.planned.PrepareError.TheVariants.{Rules, Stitch, Memory}
use Rattle.dft_stitch.specs.Limits as limits
use Rattle.dft_stitch.specs.Planning.{IsRefusal, first_failing, of_rules, of_stitch, refusal}

-- the first of two steps that fails
abbrev pub first_of : Option RuleError → Option StitchError → Option PrepareError
first_of r s = first_failing (option_map Rules r ∷ option_map Stitch s ∷ [])

-- ---- a step refuses

rules_first : (r : Option RuleError) (s : Option StitchError) (e : RuleError) → r ≡ Some e → first_of r s ≡ Some (Rules e)
rules_first r s e is = ap (λ (o : Option RuleError). first_of o s) is

rules_refused : (r : Option RuleError) (s : Option StitchError) (e : RuleError) → rules.IsRefusal r e → IsRefusal (first_of r s) (of_rules e)
rules_refused r s (rule.ClockAsData net) is = rules_first r s (rule.ClockAsData net) is
rules_refused r s (rule.ScanCellPresent instance) is = rules_first r s (rule.ScanCellPresent instance) is
rules_refused r s (rule.TooFewCells found wanted) is = rules_first r s (rule.TooFewCells found wanted) is
rules_refused r s (rule.UnknownName name) is = rules_first r s (rule.UnknownName name) is
rules_refused r s (rule.LockupPresent instance) is = rules_first r s (rule.LockupPresent instance) is
rules_refused r s (rule.PortName name) is = rules_first r s (rule.PortName name) is
rules_refused r s (rule.Memory error) is = _

stitch_refused : (s : Option StitchError) (e : StitchError) → limits.IsRefusal s e → IsRefusal (first_of None s) (of_stitch e)
stitch_refused s (stitch.TooMany what limit) is = ap (λ (o : Option StitchError). first_of None o) is
stitch_refused s (stitch.Memory error) is = _

pub refused_by_rules : (n : Netlist) (config : Config) (e : RuleError) → rules.IsRefusal (rules.refusal n config) e → IsRefusal (refusal n config) (of_rules e)
refused_by_rules n config e h = rules_refused (rules.refusal n config) (limits.refusal n config) e h

pub refused_by_stitch : (n : Netlist) (config : Config) (e : StitchError) → rules.refusal n config ≡ None → limits.IsRefusal (limits.refusal n config) e → IsRefusal (refusal n config) (of_stitch e)
refused_by_stitch n config e none h =
    let P : Option RuleError → Type 0 = λ r. IsRefusal (first_of r (limits.refusal n config)) (of_stitch e) in
    subst P (sym none) (stitch_refused (limits.refusal n config) e h)

-- no step refuses
pub both_pass : (n : Netlist) (config : Config) → rules.refusal n config ≡ None → limits.refusal n config ≡ None → refusal n config ≡ None
both_pass n config r s = rw (r, s) refl

-- ---- what a refusal says

-- the scan rules refuse
pub by_rules : (r : Option RuleError) (s : Option StitchError) (e : RuleError) → first_of r s ≡ Some (Rules e) → r ≡ Some e
by_rules None None e is = absurd (cc)
by_rules None (Some x) e is = absurd (cc)
by_rules (Some x) s e is = cc

-- the scan rules pass, and a limit refuses
pub by_stitch : (r : Option RuleError) (s : Option StitchError) (e : StitchError) → first_of r s ≡ Some (Stitch e) → (r ≡ None) × (s ≡ Some e)
by_stitch None None e is = absurd (cc)
by_stitch None (Some x) e is = (refl, cc)
by_stitch (Some x) s e is = absurd (cc)
