-- The errors of the steps, as errors of a compilation: want of memory in any step is want of memory.
use Rattle.dft_rules.specs.declared.error.RuleError.{RuleError}
use Rattle.dft_rules.specs.declared.error.RuleError.TheVariants as rule
use Rattle.dft_stitch.specs.declared.error.StitchError.{StitchError}
use Rattle.dft_stitch.specs.declared.error.StitchError.TheVariants as stitch
use Rattle.dft_stitch.specs.declared.planned.PrepareError.{PrepareError}
use Rattle.dft_stitch.specs.declared.planned.PrepareError.TheVariants as planning
use Rattle.dft_scan_frame.specs.declared.error.InsertError.{InsertError}
use Rattle.dft_scan_frame.specs.declared.error.InsertError.TheVariants as insert
use Rattle.dft_report.specs.declared.error.ReportError.{ReportError}
use Rattle.dft_report.specs.declared.error.ReportError.TheVariants as report
use Rattle.dft_stil_text.specs.declared.error.StilError.{StilError}
use Rattle.dft_stil_text.specs.declared.error.StilError.TheVariants as stil
use Rattle.dft_compile.specs.declared.error.CompileError.{CompileError}
use Rattle.dft_compile.specs.declared.error.CompileError.TheVariants.{Rules, Stitch, Insert, Patterns, Report, Memory}

abbrev pub of_rules : RuleError → CompileError
of_rules (rule.Memory error) = Memory error
of_rules error = Rules error

abbrev pub of_stitch : StitchError → CompileError
of_stitch (stitch.Memory error) = Memory error
of_stitch error = Stitch error

abbrev pub of_planning : PrepareError → CompileError
of_planning (planning.Rules error) = Rules error
of_planning (planning.Stitch error) = Stitch error
of_planning (planning.Memory error) = Memory error

abbrev pub of_insert : InsertError → CompileError
of_insert (insert.Memory error) = Memory error
of_insert error = Insert error

abbrev pub of_report : ReportError → CompileError
of_report (report.Memory error) = Memory error
of_report error = Report error

abbrev pub of_patterns : StilError → CompileError
of_patterns (stil.Memory error) = Memory error
of_patterns error = Patterns error
