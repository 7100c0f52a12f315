-- The texts of a scan, and what is counted.
use Rattle.std.specs.Prelude.{◌≡◌, List, length, Option}
use Rattle.dft_base.specs.Lexing.{Text}
use Rattle.dft_netlist.specs.Netlist.{Netlist}
use Rattle.dft_config.specs.Config.{Config}
use Rattle.dft_rules.specs.declared.judged.Judged.{Judged}
use Rattle.dft_rules.specs.Rules.{judgements}
use Rattle.dft_stitch.specs.Chains.{plan_of}
use Rattle.dft_stitch.specs.Plans.{Plan}
use Rattle.dft_insert.specs.declared.style.Style.TheVariants.{Plain}
use Rattle.dft_insert.specs.Statements.{scanned}
use Rattle.dft_report.specs.Written as report
use Rattle.dft_verilog_out.specs.Written as netlist
use Rattle.dft_scan.specs.declared.texts.Counts.{Counts}
use Rattle.dft_scan.specs.declared.texts.ScanTexts.{ScanTexts}
use Rattle.dft_scan.specs.Reports.{report_of, scanned_count, unscanned_count}

-- the written form of the scanned netlist, in style Plain
abbrev pub netlist_text : Netlist → Config → Text
netlist_text n config = netlist.written (scanned Plain n config)

-- the written form of the report
abbrev pub report_text : Netlist → Config → Text
report_text n config = report.written (report_of n config)

abbrev pub counts_with : List (Option Judged) → Plan → Counts
counts_with verdicts plan = record {
  cells = scanned_count verdicts;
  unscanned = unscanned_count verdicts;
  chains = length plan.chains;
  lockups = length plan.lockups;
}

-- what is counted of a design and a configuration
abbrev pub counts_of : Netlist → Config → Counts
counts_of n config = counts_with (judgements n config) (plan_of n config)

-- these are the texts and the counts of a design and a configuration
pub record IsScanOf (n : Netlist) (config : Config) (s : ScanTexts) : Type 0 where
  pub netlist : s.netlist.items ≡ netlist_text n config
  pub report : s.report.items ≡ report_text n config
  pub counts : s.counts ≡ counts_of n config
