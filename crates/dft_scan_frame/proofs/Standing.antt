-- An instance that stands at a place of the planned chains is a scanned flip-flop.
use Rattle.std.proofs.Common.{ℕ, ◌≡◌, Bool, true, Some, is_some}
use Rattle.dft_netlist.specs.declared.ids.InstanceId.{InstanceId}
use Rattle.dft_netlist.specs.Netlist.{Netlist}
use Rattle.dft_netlist.specs.Drivers.{kind_at}
use Rattle.dft_config.specs.Config.{Config}
use Rattle.dft_rules.specs.declared.judged.Judged.TheVariants.{Scanned}
use Rattle.dft_rules.specs.Rules.{may_be_scanned, clocked_by, are_held_at, scan_cell_of, judged}
use Rattle.dft_rules.proofs.ClockedFlops.{PassesRules, IsVerdict, verdict_passes}
use Rattle.dft_stitch.specs.Chains.{plan_of}
use Rattle.dft_stitch.specs.Plans.{cell_at}
use Rattle.dft_stitch.proofs.OnceLemmas.{cells_scanned}
use Rattle.dft_scan_frame.specs.Statements.{IsReady}

-- ---- a flip-flop in the chains

-- the instance is a flip-flop that no scan rule keeps out, by the domain with this number and at this edge
pub record IsScannedFlop (n : Netlist) (config : Config) (i : ℕ) : Type 0 where
  pub domain : ℕ
  pub falling : Bool
  pub judgement : judged n config i ≡ Some (Scanned domain falling)
  pub kind : may_be_scanned (kind_at n i) ≡ true
  pub passed : PassesRules (clocked_by n config i) (are_held_at n config i) (is_some (scan_cell_of n i)) domain falling

pub stands_scanned : (n : Netlist) (config : Config) (chain place : ℕ) (cell : InstanceId) → IsReady n config → cell_at (plan_of n config).chains chain place ≡ Some cell → IsScannedFlop n config cell.0
stands_scanned n config chain place cell ready stands =
    let it = cells_scanned n config chain place cell ready.range stands in
    let verdict : IsVerdict n config cell.0 it.domain it.falling = verdict_passes n config cell.0 it.domain it.falling it.is in
    record { domain = it.domain; falling = it.falling; judgement = it.is; kind = verdict.kind; passed = verdict.passed }
