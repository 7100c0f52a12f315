-- A design whose chains are planned, and why there are none: the first check that fails, of the scan rules and then of the plan.
use Rattle.std.specs.Prelude.{◌≡◌, List, [], ◌∷◌, Option, None, Some, option_map}
use Rattle.dft_netlist.specs.Netlist.{Netlist}
use Rattle.dft_config.specs.Config.{Config}
use Rattle.dft_rules.specs.declared.error.RuleError.{RuleError}
use Rattle.dft_rules.specs.declared.error.RuleError.TheVariants as rule
use Rattle.dft_rules.specs.Refusals as rules
use Rattle.dft_stitch.specs.declared.error.StitchError.{StitchError}
use Rattle.dft_stitch.specs.declared.error.StitchError.TheVariants as stitch
use Rattle.dft_stitch.specs.declared.planned.PrepareError.{PrepareError}
use Rattle.dft_stitch.specs.declared.planned.PrepareError.TheVariants.{Rules, Stitch, Memory}
use Rattle.dft_stitch.specs.Limits as limits

-- a design, and its configuration
pub record Planned : Type 0 where
  pub design : Netlist
  pub config : Config

-- want of memory in a step is want of memory
abbrev pub of_rules : RuleError → PrepareError
of_rules (rule.Memory error) = Memory error
of_rules error = Rules error

abbrev pub of_stitch : StitchError → PrepareError
of_stitch (stitch.Memory error) = Memory error
of_stitch error = Stitch error

-- the first that fails
abbrev pub first_failing : List (Option PrepareError) → Option PrepareError
first_failing [] = None
first_failing (None ∷ checks) = first_failing checks
first_failing (Some error ∷ checks) = Some error

-- the checks in their order: the scan rules, the limits of the plan
abbrev pub refusal : Netlist → Config → Option PrepareError
refusal n config = first_failing (option_map Rules (rules.refusal n config) ∷ option_map Stitch (limits.refusal n config) ∷ [])

-- the error is this refusal, but for want of memory
abbrev pub IsRefusal : Option PrepareError → PrepareError → Type 0
IsRefusal refused (Rules error) = refused ≡ Some (Rules error)
IsRefusal refused (Stitch error) = refused ≡ Some (Stitch error)
IsRefusal refused (Memory error) = Unit {0}
