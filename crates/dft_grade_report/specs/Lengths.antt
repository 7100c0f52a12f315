-- How long a report would be.
use Rattle.std.specs.Prelude.{ℕ, ◌≡◌, ◌<◌, pos}
use Rattle.dft_report.specs.declared.error.ReportError.{ReportError}
use Rattle.dft_report.specs.declared.error.ReportError.TheVariants.{K6, Memory}
use Rattle.dft_report.specs.declared.limits.TheConstants.{MAX_BYTES}

-- so many bytes are more than the limit, and this many are told, but for want of memory
abbrev pub IsLonger : (bytes : ℕ) → ReportError → Type 0
IsLonger bytes (K6 told) = (MAX_BYTES < bytes) × (told ≡ pos bytes)
IsLonger bytes (Memory error) = Unit {0}
