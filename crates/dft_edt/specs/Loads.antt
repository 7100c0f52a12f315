-- A load: what shift vectors after a clearing vector leave in the cells.
use Rattle.std.specs.Prelude.{ℕ, suc, ◌*◌, ◌<◌, ◌≡◌, ◌&&◌, Bool, List, [], ◌∷◌, length, Some}
use Rattle.dft_base.specs.declared.tri.Tri.{Tri}
use Rattle.dft_base.specs.Tri.{known}
use Rattle.dft_base.specs.Solutions.{sum_to}
use Rattle.dft_netlist.specs.declared.ids.InstanceId.{InstanceId}
use Rattle.dft_behavior.specs.Logic.{Logic, Ports, IsRanked}
use Rattle.dft_behavior.specs.Runs.{Now, Vector, Turn, IsTurn, after_turn, AreTurns, IsRun}
use Rattle.dft_abstract.specs.Cycle.{Round, IsRound, after_round}
use Rattle.dft_runs.specs.Passes.{Pass, Passes, ArePasses, end_of, AreRounds, after_rounds, after_turns}
use Rattle.dft_config.specs.Config.{Config}
use Rattle.dft_config.specs.Range.{IsInRange}
use Rattle.dft_config.specs.Ring.{Table}
use Rattle.dft_config.specs.Loads.{load_equation, bit_of_column}
use Rattle.dft_stitch.specs.Plans.{cell_at}
use Rattle.dft_chains.specs.Hardware.{ChainNets}
use Rattle.dft_edt.specs.Hardware.{EdtNets, HasRing, HeadsAre}
use Rattle.dft_edt.specs.Vectors.{IsEdtShift, IsClearing, Carries}

-- shift vectors whose channels carry the bits of a table, from a cycle on
abbrev pub CarryTable : Ports → Config → ChainNets → EdtNets → Table → (cycle : ℕ) → List Vector → Type 0
CarryTable ports config w hw table cycle [] = Unit {0}
CarryTable ports config w hw table cycle (x ∷ xs) =
    (IsEdtShift ports w hw x × Carries config hw (λ j. table j cycle) x) × CarryTable ports config w hw table (suc cycle) xs

-- the sum of a table over the load equation of a cell
abbrev pub load_sum : Config → Table → (cycles : ℕ) (late : Bool) (chain place : ℕ) → Bool
load_sum config table cycles late chain place =
    sum_to (cycles * config.ring.channels) (λ column. load_equation config.ring cycles late chain place column && bit_of_column config.ring table column)

-- From any values, where a clearing vector and then shift vectors whose channels carry a table pass on what is known: each cell that
-- the load reaches has the sum of the table over its load equation.
abbrev pub LoadPasses : Type 0
LoadPasses =
    (l : Logic) (ports : Ports) (config : Config) (chains : List (List InstanceId)) (w : ChainNets) (hw : EdtNets) (falling : ℕ → Bool) (table : Table)
    (clear : Vector) (load : List Vector) (old : ℕ → Tri) (p : Pass) (ps : List Pass) →
    HasRing l ports config chains w hw → HeadsAre l chains falling → IsInRange config → IsClearing hw clear → CarryTable ports config w hw table 0 load →
    Passes l clear old p → ArePasses l p.new load ps →
    (chain place : ℕ) (cell : InstanceId) → cell_at chains chain place ≡ Some cell → place < length load →
    end_of p.new ps cell.0 ≡ known (load_sum config table (length load) (falling chain) chain place)

-- so it is on the abstract cycle
abbrev pub LoadInRounds : Type 0
LoadInRounds =
    (l : Logic) (ports : Ports) (config : Config) (chains : List (List InstanceId)) (w : ChainNets) (hw : EdtNets) (falling : ℕ → Bool) (table : Table)
    (clear : Vector) (load : List Vector) (old : ℕ → Tri) (r : Round) (rs : List Round) →
    HasRing l ports config chains w hw → HeadsAre l chains falling → IsInRange config → IsClearing hw clear → CarryTable ports config w hw table 0 load →
    IsRound l clear old r → AreRounds l (after_round l clear old r) load rs →
    (chain place : ℕ) (cell : InstanceId) → cell_at chains chain place ≡ Some cell → place < length load →
    after_rounds l (after_round l clear old r) load rs cell.0 ≡ known (load_sum config table (length load) (falling chain) chain place)

-- and in every run, after any vectors
abbrev pub LoadInRuns : Type 0
LoadInRuns =
    (l : Logic) (rank : ℕ → ℕ) (ports : Ports) (config : Config) (chains : List (List InstanceId)) (w : ChainNets) (hw : EdtNets) (falling : ℕ → Bool) (table : Table)
    (before : List Vector) (clear : Vector) (load : List Vector) (start : Now) (ts : List Turn) (a : Turn) (us : List Turn) →
    IsRanked l rank → HasRing l ports config chains w hw → HeadsAre l chains falling → IsInRange config → IsClearing hw clear → CarryTable ports config w hw table 0 load →
    IsRun l before start ts →
    let now = after_turns l start before ts in
    IsTurn l clear now a → AreTurns l (after_turn l clear now a) load us →
    (chain place : ℕ) (cell : InstanceId) → cell_at chains chain place ≡ Some cell → place < length load →
    (after_turns l (after_turn l clear now a) load us).state.flops cell.0 ≡ load_sum config table (length load) (falling chain) chain place
