-- Laws of chains.
use Rattle.std.specs.Prelude.{ℕ, suc, Bool, true, ◌≡◌, ◌+◌, ◌<◌, ◌≤◌, List, length, flat_map, Option, Some, slice_get}
use Rattle.dft_netlist.specs.declared.ids.InstanceId.{InstanceId}
use Rattle.dft_netlist.specs.Netlist.{Netlist}
use Rattle.dft_config.specs.Config.{Config}
use Rattle.dft_config.specs.Range.{IsInRange}
use Rattle.dft_rules.specs.declared.judged.Judged.{Judged}
use Rattle.dft_rules.specs.declared.judged.Judged.TheVariants.{Scanned}
use Rattle.dft_rules.specs.Rules.{judged}
use Rattle.dft_stitch.specs.declared.places.CellClock.{CellClock}
use Rattle.dft_stitch.specs.Chains.{chains_of, clock_of, plan_of, scanned_cells}
use Rattle.dft_stitch.specs.Plans.{cell_at}

-- The cells of the chains, one chain after the other, are the scanned cells in their order.
abbrev pub ChainsHoldCells : Type 0
ChainsHoldCells = (cells : List InstanceId) (chains : ℕ) → 1 ≤ chains → flat_map (λ chain. chain) (chains_of cells chains) ≡ cells

-- No chain is longer than another by more than one cell.
abbrev pub ChainsAreEven : Type 0
ChainsAreEven =
    (cells : List InstanceId) (chains a b : ℕ) (one other : List InstanceId) → 1 ≤ chains →
    slice_get (chains_of cells chains) a ≡ Some one → slice_get (chains_of cells chains) b ≡ Some other → length one ≤ length other + 1

-- the cell stands at one place of the chains, and at no other
pub record StandsOnce (chains : List (List InstanceId)) (cell : InstanceId) : Type 0 where
  pub chain : ℕ
  pub place : ℕ
  pub stands : cell_at chains chain place ≡ Some cell
  pub only : (other after : ℕ) → cell_at chains other after ≡ Some cell → (other ≡ chain) × (after ≡ place)

-- Each scanned flip-flop of a design stands at one place of its chains.
abbrev pub CellsStandOnce : Type 0
CellsStandOnce =
    (n : Netlist) (config : Config) (i domain : ℕ) (falling : Bool) → IsInRange config → judged n config i ≡ Some (Scanned domain falling) →
    StandsOnce (plan_of n config).chains (record { 0 = i })

-- an instance is a scanned flip-flop
pub record IsScanned (n : Netlist) (config : Config) (i : ℕ) : Type 0 where
  pub domain : ℕ
  pub falling : Bool
  pub is : judged n config i ≡ Some (Scanned domain falling)

-- Each cell of the chains of a design is one of its scanned flip-flops.
abbrev pub CellsAreScanned : Type 0
CellsAreScanned =
    (n : Netlist) (config : Config) (chain place : ℕ) (cell : InstanceId) → IsInRange config → cell_at (plan_of n config).chains chain place ≡ Some cell → IsScanned n config cell.0

-- Along a chain no falling cell stands behind a rising one, however the cells are judged; clocks are those of so many domains.
abbrev pub FallingFirst : Type 0
FallingFirst =
    (verdicts : List (Option Judged)) (config : Config) (chain place : ℕ) (cell next : InstanceId) (clock other : CellClock) → 1 ≤ config.chains →
    let cells = scanned_cells verdicts (length config.domains) in let chains = chains_of cells config.chains in
    cell_at chains chain place ≡ Some cell → cell_at chains chain (suc place) ≡ Some next → clock_of verdicts cell ≡ Some clock → clock_of verdicts next ≡ Some other →
    other.domain < length config.domains → other.falling ≡ true → clock.falling ≡ true

-- No planned chain is longer than a load.
abbrev pub ChainsFit : Type 0
ChainsFit = (n : Netlist) (config : Config) (chain : ℕ) (cells : List InstanceId) → IsInRange config → slice_get (plan_of n config).chains chain ≡ Some cells → length cells ≤ (plan_of n config).cycles
