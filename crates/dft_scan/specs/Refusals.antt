-- Why a design is not scanned: the first check that fails.
use Rattle.std.specs.Prelude.{◌≡◌, pos, nat_lt, List, [], ◌∷◌, length, Option, None, Some, option_map, if◌then◌else◌}
use Rattle.dft_base.specs.Lexing.{Text}
use Rattle.dft_netlist.specs.Netlist.{Netlist}
use Rattle.dft_config.specs.Config.{Config}
use Rattle.dft_rules.specs.Refusals as rules
use Rattle.dft_stitch.specs.Chains.{plan_of}
use Rattle.dft_stitch.specs.Limits as stitch
use Rattle.dft_insert.specs.declared.style.Style.TheVariants.{Plain}
use Rattle.dft_insert.specs.Refusals as insert
use Rattle.dft_report.specs.declared.error.ReportError.{ReportError}
use Rattle.dft_report.specs.declared.error.ReportError.TheVariants.{K6}
use Rattle.dft_report.specs.declared.limits.TheConstants.{MAX_BYTES}
use Rattle.dft_scan.specs.declared.error.ScanError.{ScanError}
use Rattle.dft_scan.specs.declared.error.ScanError.TheVariants.{Rules, Stitch, Insert, Report, Memory}
use Rattle.dft_scan.specs.Scans.{report_text}

-- a text that is longer than a report may be, and its length
abbrev pub too_long : Text → Option ReportError
too_long text = if nat_lt MAX_BYTES (length text) then Some (K6 (pos (length text))) else None

-- the first that fails
abbrev pub first_failing : List (Option ScanError) → Option ScanError
first_failing [] = None
first_failing (None ∷ checks) = first_failing checks
first_failing (Some error ∷ checks) = Some error

-- The checks in their order: the scan rules, the limits of the plan, what insertion adds, the length of the report.
abbrev pub checks : Netlist → Config → List (Option ScanError)
checks n config =
    option_map Rules (rules.refusal n config)
    ∷ option_map Stitch (stitch.refusal n config)
    ∷ option_map Insert (insert.refusal Plain n config (plan_of n config))
    ∷ option_map Report (too_long (report_text n config))
    ∷ []

abbrev pub refusal : Netlist → Config → Option ScanError
refusal n config = first_failing (checks n config)

-- the error is this refusal, but for want of memory
abbrev pub IsRefusal : Option ScanError → ScanError → Type 0
IsRefusal refused (Rules error) = refused ≡ Some (Rules error)
IsRefusal refused (Stitch error) = refused ≡ Some (Stitch error)
IsRefusal refused (Insert error) = refused ≡ Some (Insert error)
IsRefusal refused (Report error) = refused ≡ Some (Report error)
IsRefusal refused (Memory error) = Unit {0}
