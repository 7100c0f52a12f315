-- What is counted of a grading.
use Rattle.std.specs.Prelude.{ℕ, ◌-◌, Bool, true, false, List, count_by, length}
use Rattle.dft_grade.specs.declared.found.Grade.{Grade}
use Rattle.dft_grade.specs.declared.found.Grade.TheVariants.{Detected, Undetected}
use Rattle.dft_grade.specs.declared.found.Graded.{Graded}
use Rattle.dft_grade_report.specs.declared.counting.Counts.{Counts}

abbrev pub is_detected : Grade → Bool
is_detected (Detected vector signal) = true
is_detected Undetected = false

abbrev pub detected_count : List Graded → ℕ
detected_count graded = count_by (λ g. is_detected g.grade) graded

-- the faults, those that are detected, and all others
abbrev pub counts_of : List Graded → Counts
counts_of graded = record { faults = length graded; detected = detected_count graded; undetected = length graded - detected_count graded }
