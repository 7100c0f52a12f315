-- Laws of the report.
use Rattle.std.specs.Prelude.{ℕ, Option, None, Some, IsSome}
use Rattle.dft_netlist.specs.Netlist.{Netlist}
use Rattle.dft_config.specs.Config.{Config}
use Rattle.dft_rules.specs.declared.judged.Judged.{Judged}
use Rattle.dft_rules.specs.declared.judged.Judged.TheVariants.{Scanned, Unscanned}
use Rattle.dft_rules.specs.Rules.{judged, judgements}
use Rattle.dft_scan_frame.specs.Statements.{IsReady}
use Rattle.dft_scan.specs.Reports.{name_of, scanned_line, unscanned_as}

-- an instance that is judged so has its line: at each place where it may stand, or for the rule that fails
abbrev pub HasLine : Netlist → Config → (instance : ℕ) → Option Judged → Type 0
HasLine n config i None = Unit {0}
HasLine n config i (Some (Scanned domain falling)) = (chain place : ℕ) → IsSome (scanned_line n config (judgements n config) chain place (record { 0 = i }))
HasLine n config i (Some (Unscanned rule)) = IsSome (unscanned_as (name_of n i) (Some (Unscanned rule)))

-- Each flip-flop that is judged has its line: it has a name, and the domain in which it is scanned has one.
abbrev pub FlipFlopsHaveLines : Type 0
FlipFlopsHaveLines = (n : Netlist) (config : Config) (i : ℕ) → IsReady n config → HasLine n config i (judged n config i)
