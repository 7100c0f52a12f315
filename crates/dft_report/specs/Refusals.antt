-- Why a report is not written.
use Rattle.std.specs.Prelude.{◌≡◌, ◌<◌, pos, length, List, ℕ}
use Rattle.dft_report.specs.declared.error.ReportError.{ReportError}
use Rattle.dft_report.specs.declared.error.ReportError.TheVariants.{K6, Memory}
use Rattle.dft_report.specs.declared.limits.TheConstants.{MAX_BYTES}

-- the text is longer than its limit, and this is its length, but for want of memory
abbrev pub IsTooLong : (text : List ℕ) → ReportError → Type 0
IsTooLong text (K6 bytes) = (MAX_BYTES < length text) × (bytes ≡ pos (length text))
IsTooLong text (Memory error) = Unit {0}
