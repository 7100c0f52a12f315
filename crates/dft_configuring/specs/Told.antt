-- Errors of a step, as they are told.
use Rattle.dft_rules.specs.declared.error.RuleError.{RuleError}
use Rattle.dft_rules.specs.declared.error.RuleError.TheVariants as rule
use Rattle.dft_scan_frame.specs.declared.error.InsertError.{InsertError}
use Rattle.dft_scan_frame.specs.declared.error.InsertError.TheVariants as insert
use Rattle.dft_stitch.specs.declared.planned.PrepareError.{PrepareError}
use Rattle.dft_stitch.specs.declared.planned.PrepareError.TheVariants as prepare
use Rattle.dft_configuring.specs.declared.error.ConfigureError.{ConfigureError}
use Rattle.dft_configuring.specs.declared.error.ConfigureError.TheVariants.{Rules, Stitch, Insert, Memory}

-- want of memory in a step is want of memory
abbrev pub of_rules : RuleError → ConfigureError
of_rules (rule.Memory error) = Memory error
of_rules error = Rules error

abbrev pub of_insertion : InsertError → ConfigureError
of_insertion (insert.Memory error) = Memory error
of_insertion error = Insert error

abbrev pub of_planning : PrepareError → ConfigureError
of_planning (prepare.Rules error) = Rules error
of_planning (prepare.Stitch error) = Stitch error
of_planning (prepare.Memory error) = Memory error
