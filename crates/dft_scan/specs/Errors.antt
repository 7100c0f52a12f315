-- The errors of the steps, as errors of a scan: want of memory in any step is want of memory.
use Rattle.dft_stitch.specs.declared.planned.PrepareError.{PrepareError}
use Rattle.dft_stitch.specs.declared.planned.PrepareError.TheVariants as planning
use Rattle.dft_scan_frame.specs.declared.error.InsertError.{InsertError}
use Rattle.dft_scan_frame.specs.declared.error.InsertError.TheVariants as insert
use Rattle.dft_report.specs.declared.error.ReportError.{ReportError}
use Rattle.dft_report.specs.declared.error.ReportError.TheVariants as report
use Rattle.dft_scan.specs.declared.error.ScanError.{ScanError}
use Rattle.dft_scan.specs.declared.error.ScanError.TheVariants.{Rules, Stitch, Insert, Report, Memory}

abbrev pub of_planning : PrepareError → ScanError
of_planning (planning.Rules error) = Rules error
of_planning (planning.Stitch error) = Stitch error
of_planning (planning.Memory error) = Memory error

abbrev pub of_insert : InsertError → ScanError
of_insert (insert.Memory error) = Memory error
of_insert error = Insert error

abbrev pub of_report : ReportError → ScanError
of_report (report.Memory error) = Memory error
of_report error = Report error
