-- The chains of style Plain shift and are shown.
use Rattle.dft_scan_behavior.proofs.PlainShifts.{scanned_shifts, scanned_shows}
use Rattle.dft_scan_behavior.proofs.ShiftRuns.{shifts_run}
use Rattle.dft_scan_behavior.proofs.laws.plain_shifts.Goals as goal

pub returns-clause-shifts : goal.returns-clause-shifts
returns-clause-shifts c = scanned_shifts

pub returns-clause-shows : goal.returns-clause-shows
returns-clause-shows c = scanned_shows

pub returns-clause-run : goal.returns-clause-run
returns-clause-run c = shifts_run
