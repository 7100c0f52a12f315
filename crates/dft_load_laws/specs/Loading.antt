-- Which cubes a load brings to the cells of a scanned netlist of style Edt (Rajski and others, 2004).
use Rattle.std.specs.Prelude.{ℕ, ◌≡◌, ◌↔◌, Bool, List, [], length, None, Some, slice_get}
use Rattle.dft_netlist.specs.declared.ids.InstanceId.{InstanceId}
use Rattle.dft_behavior.specs.Logic.{Ports}
use Rattle.dft_netlist.specs.Netlist.{Netlist}
use Rattle.dft_behavior.specs.Runs.{Now, Vector, Turn, IsTurn, after_turn, AreTurns, IsRun}
use Rattle.dft_config.specs.Config.{Config}
use Rattle.dft_config.specs.Ring.{Table}
use Rattle.dft_config.specs.Loads.{bit_of_column}
use Rattle.dft_equations.specs.LoadRows.{LoadRows, AreLoadEquations}
use Rattle.dft_stitch.specs.Chains.{plan_of}
use Rattle.dft_stitch.specs.Plans.{lengths_of, falling_head}
pub use Rattle.dft_stitch.specs.Laws.{ChainsFit}
use Rattle.dft_runs.specs.Passes.{after_turns}
use Rattle.dft_edt.specs.Vectors.{IsClearing}
use Rattle.dft_cubes.specs.declared.cube.Cube.{Cube}
use Rattle.dft_cubes.specs.declared.cube.Merged.{Merged}
use Rattle.dft_expect.specs.Loaded.{table_of}
use Rattle.dft_merge.specs.declared.placed.Placed.{Placed}
use Rattle.dft_merge.specs.declared.placed.Placed.TheVariants.{Into}
use Rattle.dft_merge.specs.Laws.{IsUnsolvable}
use Rattle.dft_merge.specs.Placement.{Loads, Places, PlacesAll, first_unscanned}
use Rattle.dft_merge.specs.Rows.{CellRows, cell_row}
use Rattle.dft_scan_frame.specs.Statements.{IsReady}
use Rattle.dft_scan_behavior.specs.EdtVectors.{SuitsEdt, edt_logic}
use Rattle.dft_scan_behavior.specs.Experiments.{Carry}
use Rattle.dft_scan_behavior.specs.Facts.{edt_hardware}

-- ---- runs of a load

-- a run with a load of a table: any vectors, a clearing vector, and as many shift vectors as are planned, whose channels carry the table
pub record LoadRun (n : Netlist) (config : Config) (ports : Ports) (table : Table) : Type 0 where
  pub before : List Vector
  pub clear : Vector
  pub load : List Vector
  pub start : Now
  pub ts : List Turn
  pub a : Turn
  pub us : List Turn
  pub clearing : IsClearing (edt_hardware n config) clear
  pub carries : Carry n config table load
  pub count : length load ≡ (plan_of n config).cycles
  pub run : IsRun (edt_logic n config ports) before start ts
  pub turn : IsTurn (edt_logic n config ports) clear (after_turns (edt_logic n config ports) start before ts) a
  pub turns : AreTurns (edt_logic n config ports) (after_turn (edt_logic n config ports) clear (after_turns (edt_logic n config ports) start before ts) a) load us

-- the bits of the flip-flops after it
abbrev pub after_load : (n : Netlist) (config : Config) (ports : Ports) (table : Table) → LoadRun n config ports table → ℕ → Bool
after_load n config ports table r =
    let l = edt_logic n config ports in
    (after_turns l (after_turn l r.clear (after_turns l r.start r.before r.ts) r.a) r.load r.us).state.flops

-- each of these cells has its bit
abbrev pub HoldBits : (flops : ℕ → Bool) → List (InstanceId × Bool) → Type 0
HoldBits flops cells = (k : ℕ) (given : InstanceId × Bool) → slice_get cells k ≡ Some given → flops given.0.0 ≡ given.1

-- the table loads these bits, in every run; and in one
abbrev pub LoadsAlways : Netlist → Config → Ports → Table → List (InstanceId × Bool) → Type 0
LoadsAlways n config ports table cells = (r : LoadRun n config ports table) → HoldBits (after_load n config ports table r) cells

abbrev pub LoadsOnce : Netlist → Config → Ports → Table → List (InstanceId × Bool) → Type 0
LoadsOnce n config ports table cells = (r : LoadRun n config ports table) × HoldBits (after_load n config ports table r) cells

-- Each table is carried by some run.
abbrev pub LoadsRun : Type 0
LoadsRun = (n : Netlist) (config : Config) (ports : Ports) (table : Table) → IsReady n config → SuitsEdt n config ports → LoadRun n config ports table

-- ---- which cubes

-- the load equations of the planned chains
abbrev pub AreRows : Netlist → Config → LoadRows → Type 0
AreRows n config rows = AreLoadEquations config.ring (lengths_of (plan_of n config).chains) (falling_head (plan_of n config)) (plan_of n config).cycles rows

-- by the cell
abbrev pub rows_of : Netlist → Config → LoadRows → CellRows
rows_of n config rows = cell_row (plan_of n config).chains rows

-- Channel bits that give each of these scanned cells its bit by the sum over its load equation load them in every run.
abbrev pub BitsLoad : Type 0
BitsLoad =
    (n : Netlist) (config : Config) (ports : Ports) (rows : LoadRows) (bits : ℕ → Bool) (cells : List (InstanceId × Bool)) → IsReady n config → SuitsEdt n config ports → AreRows n config rows →
    first_unscanned (rows_of n config rows) cells ≡ None → Loads rows.columns (rows_of n config rows) bits cells → LoadsAlways n config ports (table_of config.ring bits) cells

-- A cube of scanned cells is unsolvable exactly where no table loads it in any run.
abbrev pub UnsolvableInRuns : Type 0
UnsolvableInRuns =
    (n : Netlist) (config : Config) (ports : Ports) (rows : LoadRows) (window : ℕ) (old new : List Merged) (cube : Cube) (placed : Placed) → IsReady n config → SuitsEdt n config ports → AreRows n config rows →
    first_unscanned (rows_of n config rows) cube.cells ≡ None → Places rows.columns (rows_of n config rows) window old cube placed new →
    IsUnsolvable placed ↔ ((table : Table) → LoadsOnce n config ports table cube.cells → ⊥)

-- And a table that loads scanned cells in one run solves their load equations.
abbrev pub LoadsSolve : Type 0
LoadsSolve =
    (n : Netlist) (config : Config) (ports : Ports) (rows : LoadRows) (table : Table) (cells : List (InstanceId × Bool)) → IsReady n config → SuitsEdt n config ports → AreRows n config rows →
    first_unscanned (rows_of n config rows) cells ≡ None → LoadsOnce n config ports table cells → Loads rows.columns (rows_of n config rows) (bit_of_column config.ring table) cells

-- the word is that a cube is in a pattern
abbrev pub IsInto : Placed → Type 0
IsInto placed = (p : ℕ) × (placed ≡ Into p)

-- A cube of scanned cells is placed in a pattern exactly where some table loads it in every run.
abbrev pub PlacedInRuns : Type 0
PlacedInRuns =
    (n : Netlist) (config : Config) (ports : Ports) (rows : LoadRows) (window : ℕ) (old new : List Merged) (cube : Cube) (placed : Placed) → IsReady n config → SuitsEdt n config ports → AreRows n config rows →
    first_unscanned (rows_of n config rows) cube.cells ≡ None → Places rows.columns (rows_of n config rows) window old cube placed new →
    IsInto placed ↔ ((table : Table) × LoadsAlways n config ports table cube.cells)

-- ---- the bits of patterns

-- channel bits, for each pattern by its number, that give each of its cells its bit by the sum over the cell's load equation
abbrev pub BitsOf : Netlist → Config → LoadRows → List Merged → (bits : ℕ → ℕ → Bool) → Type 0
BitsOf n config rows patterns bits = (p : ℕ) (pattern : Merged) → slice_get patterns p ≡ Some pattern → Loads rows.columns (rows_of n config rows) (bits p) pattern.cells

-- The bits of a pattern load, in every run, each cube that was placed in it.
abbrev pub PatternsLoad : Type 0
PatternsLoad =
    (n : Netlist) (config : Config) (ports : Ports) (rows : LoadRows) (window : ℕ) (cubes : List Cube) (placed : List Placed) (patterns : List Merged) (bits : ℕ → ℕ → Bool) → IsReady n config → SuitsEdt n config ports → AreRows n config rows →
    PlacesAll rows.columns (rows_of n config rows) window [] cubes placed patterns → BitsOf n config rows patterns bits →
    (c p : ℕ) (cube : Cube) → slice_get cubes c ≡ Some cube → slice_get placed c ≡ Some (Into p) → LoadsAlways n config ports (table_of config.ring (bits p)) cube.cells
