-- Any one cell and any two cells take any bits, in every run of the netlist that is made (Rajski and others, 2004).
use Rattle.std.specs.Prelude.{ℕ, ◌≡◌, Bool, List, [], ◌∷◌, Some}
use Rattle.dft_netlist.specs.declared.ids.InstanceId.{InstanceId}
use Rattle.dft_behavior.specs.Logic.{Ports}
use Rattle.dft_netlist.specs.Netlist.{Netlist}
use Rattle.dft_config.specs.Config.{Config}
use Rattle.dft_config.specs.Ring.{Table}
use Rattle.dft_equations.specs.LoadRows.{LoadRows}
use Rattle.dft_stitch.specs.Chains.{plan_of}
use Rattle.dft_stitch.specs.Plans.{cell_at}
use Rattle.dft_cubes.specs.declared.cube.Cube.{Cube}
use Rattle.dft_cubes.specs.declared.cube.Merged.{Merged}
use Rattle.dft_merge.specs.declared.placed.Placed.{Placed}
use Rattle.dft_merge.specs.Laws.{IsUnsolvable}
use Rattle.dft_merge.specs.Placement.{Places}
use Rattle.dft_scan_frame.specs.Statements.{IsReady}
use Rattle.dft_scan_behavior.specs.EdtVectors.{SuitsEdt}
use Rattle.dft_load_laws.specs.Loading.{AreRows, LoadsAlways, rows_of}
use Rattle.dft_configure.specs.Good.{AreGood}

-- a cell stands in the planned chains
abbrev pub IsChained : Netlist → Config → InstanceId → Type 0
IsChained n config cell = (chain : ℕ) × (place : ℕ) × (cell_at (plan_of n config).chains chain place ≡ Some cell)

-- at most two care bits, of different cells that stand in the chains
abbrev pub AreFew : Netlist → Config → List (InstanceId × Bool) → Type 0
AreFew n config [] = Unit {0}
AreFew n config (given ∷ []) = IsChained n config given.0
AreFew n config (given ∷ other ∷ []) = IsChained n config given.0 × (IsChained n config other.0 × (given.0 ≡ other.0 → ⊥))
AreFew n config (given ∷ other ∷ third ∷ more) = ⊥

-- Where the load equations are good, some channel bits load these care bits in every run.
abbrev pub FewAreLoaded : Type 0
FewAreLoaded =
    (n : Netlist) (config : Config) (ports : Ports) (rows : LoadRows) (cells : List (InstanceId × Bool)) → IsReady n config → SuitsEdt n config ports → AreRows n config rows → AreGood rows →
    AreFew n config cells → (table : Table) × LoadsAlways n config ports table cells

-- So no cube of them is ever unsolvable.
abbrev pub FewAreSolvable : Type 0
FewAreSolvable =
    (n : Netlist) (config : Config) (rows : LoadRows) (window : ℕ) (old new : List Merged) (cube : Cube) (placed : Placed) → IsReady n config → AreRows n config rows → AreGood rows →
    AreFew n config cube.cells → Places rows.columns (rows_of n config rows) window old cube placed new → IsUnsolvable placed → ⊥
