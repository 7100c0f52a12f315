-- Cubes that were placed in patterns are loaded and captured by the vectors of these patterns (Rajski and others, 2004).
use Rattle.std.specs.Prelude.{ℕ, ◌≡◌, Bool, List, [], ◌∷◌, map, Some, slice_get}
use Rattle.dft_base.specs.Solutions.{bit_at}
use Rattle.dft_base.specs.declared.tri.Tri.TheVariants.{Zero}
use Rattle.dft_base.specs.Tri.{known}
use Rattle.dft_netlist.specs.declared.ids.NetId.{NetId}
use Rattle.dft_behavior.specs.Logic.{Ports}
use Rattle.dft_netlist.specs.Netlist.{Netlist}
use Rattle.dft_behavior.specs.Runs.{Now, Vector, Turn, IsRun}
use Rattle.dft_netlist.specs.Sound.{IsNetlist}
use Rattle.dft_config.specs.Config.{Config}
use Rattle.dft_equations.specs.LoadRows.{LoadRows}
use Rattle.dft_rules.specs.Rules.{is_net}
use Rattle.dft_stitch.specs.Chains.{plan_of}
use Rattle.dft_cubes.specs.declared.cube.Cube.{Cube}
use Rattle.dft_cubes.specs.Domains.{captured}
use Rattle.dft_cubes.specs.Laws.{AreCubes}
use Rattle.dft_expect.specs.Captures.{capture_clock}
use Rattle.dft_merge.specs.declared.placed.Placed.{Placed}
use Rattle.dft_merge.specs.declared.placed.Placed.TheVariants.{Into}
use Rattle.dft_merge.specs.Placement.{Loads, PlacesAll}
use Rattle.dft_replay.specs.Laws.{IsRunOf, vectors_of as vectors_in}
use Rattle.dft_replay.specs.Rows.{ports_of, rows_of as replayed_rows}
use Rattle.dft_scan_frame.specs.Statements.{IsReady}
use Rattle.dft_insert.specs.declared.style.Style.TheVariants.{Edt}
use Rattle.dft_insert.specs.Statements.{scanned}
use Rattle.dft_insert.specs.Agreeing.{places_in}
use Rattle.dft_scan_behavior.specs.EdtVectors.{SuitsEdt, edt_logic}
use Rattle.dft_vectors.specs.PatternData.{PatternData}
pub use Rattle.dft_vectors.specs.PatternData.{merged_of}
use Rattle.dft_vectors.specs.VectorList.{vectors_of}
use Rattle.dft_pattern_behavior.specs.Doing.{AllDo}
use Rattle.dft_compile_laws.specs.Passing.{set_of}
use Rattle.dft_load_laws.specs.Loading.{AreRows, HoldBits, rows_of}
use Rattle.dft_compile_laws.specs.Playing.{StandFrom, capture_number, flops_before}

-- Patterns of these cubes: this became of the cubes, and the channel bits of each pattern give each of its cells its bit by the sum over
-- the cell's load equation.
pub record AreCompiled (n : Netlist) (config : Config) (rows : LoadRows) (window : ℕ) (cubes : List Cube) (placed : List Placed) (patterns : List PatternData) : Type 0 where
  pub equations : AreRows n config rows
  pub places : PlacesAll rows.columns (rows_of n config rows) window [] cubes placed (map merged_of patterns)
  pub loads : (p : ℕ) (d : PatternData) → slice_get patterns p ≡ Some d → Loads rows.columns (rows_of n config rows) (bit_at d.bits) d.merged.cells

-- ---- in runs

-- In every run over vectors that do what is listed for the patterns, where the first capture vector of a pattern begins, each cell of each
-- cube that was placed in it has the cube's bit.
abbrev pub CubesAreLoaded : Type 0
CubesAreLoaded =
    (n : Netlist) (config : Config) (ports : Ports) (rows : LoadRows) (window : ℕ) (cubes : List Cube) (placed : List Placed) (patterns : List PatternData) (xs : List Vector) (start : Now) (ts : List Turn) →
    IsReady n config → SuitsEdt n config ports → AreCompiled n config rows window cubes placed patterns →
    AllDo (scanned Edt n config) (vectors_of n config (plan_of n config) patterns) xs → IsRun (edt_logic n config ports) xs start ts →
    (c p : ℕ) (cube : Cube) → slice_get cubes c ≡ Some cube → slice_get placed c ≡ Some (Into p) →
    HoldBits (flops_before (edt_logic n config ports) xs start ts (capture_number n config patterns p)) cube.cells

-- ---- at the capture

-- a vector captures a domain for a cube: scan_enable is 0, each port that the cube gives is set to the cube's bit, and of the design's nets
-- the clock of the domain alone pulses
pub record CapturesCube (n : Netlist) (config : Config) (cube : Cube) (domain : ℕ) (x : Vector) : Type 0 where
  pub off : x.ports (places_in Edt n config).enable ≡ Zero
  pub ports : (k : ℕ) (given : NetId × Bool) → slice_get cube.ports k ≡ Some given → x.ports ((places_in Edt n config).moved given.0.0) ≡ known given.1
  pub clock : (e : ℕ) → x.pulsed ((places_in Edt n config).moved e) ≡ is_net e (capture_clock n config domain)

-- vectors capture these domains for a cube, each one
abbrev pub CaptureInTurn : Netlist → Config → Cube → (domains : List ℕ) → List Vector → Type 0
CaptureInTurn n config cube [] [] = Unit {0}
CaptureInTurn n config cube [] (x ∷ xs) = ⊥
CaptureInTurn n config cube (domain ∷ domains) [] = ⊥
CaptureInTurn n config cube (domain ∷ domains) (x ∷ xs) = CapturesCube n config cube domain x × CaptureInTurn n config cube domains xs

-- the vectors from this number on capture for a cube: one for each of its domains, in their order
pub record CaptureFrom (n : Netlist) (config : Config) (cube : Cube) (xs : List Vector) (v : ℕ) : Type 0 where
  pub captures : List Vector
  pub at : StandFrom xs v captures
  pub each : CaptureInTurn n config cube (captured cube.domains) captures

-- The capture vectors of a pattern capture for each cube that was placed in it.
abbrev pub CubesAreCaptured : Type 0
CubesAreCaptured =
    (n : Netlist) (config : Config) (rows : LoadRows) (window : ℕ) (cubes : List Cube) (placed : List Placed) (patterns : List PatternData) (xs : List Vector) → IsReady n config → AreCubes n config cubes →
    AreCompiled n config rows window cubes placed patterns → AllDo (scanned Edt n config) (vectors_of n config (plan_of n config) patterns) xs →
    (c p : ℕ) (cube : Cube) → slice_get cubes c ≡ Some cube → slice_get placed c ≡ Some (Into p) → CaptureFrom n config cube xs (capture_number n config patterns p)

-- ---- in a replay

-- In every run of the scanned netlist over its compiled set, where the first capture vector of a pattern begins, each cell of each cube that
-- was placed in it has the cube's bit.
abbrev pub CubesAreReplayed : Type 0
CubesAreReplayed =
    (n : Netlist) (config : Config) (rows : LoadRows) (window : ℕ) (cubes : List Cube) (placed : List Placed) (patterns : List PatternData) (start : Now) (turns : List Turn) →
    let w = scanned Edt n config in
    let set = set_of n config patterns in
    IsReady n config → IsNetlist w → AreCompiled n config rows window cubes placed patterns → IsRunOf w set start turns →
    (c p : ℕ) (cube : Cube) → slice_get cubes c ≡ Some cube → slice_get placed c ≡ Some (Into p) →
    HoldBits (flops_before (edt_logic n config (ports_of w set)) (vectors_in (replayed_rows w set)) start turns (capture_number n config patterns p)) cube.cells
