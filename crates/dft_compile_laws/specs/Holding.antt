-- What holds of test cubes that are compiled into patterns (Rajski and others, 2004).
use Rattle.std.specs.Prelude.{ℕ, ◌≡◌, ◌<◌, ◌^◌, List, [], length, None, Some, slice_get}
use Rattle.dft_netlist.specs.declared.ids.InstanceId.{InstanceId}
use Rattle.dft_behavior.specs.Logic.{Logic, Ports}
use Rattle.dft_netlist.specs.Netlist.{Netlist}
use Rattle.dft_netlist.specs.Orders.{IsOrder}
use Rattle.dft_behavior.specs.Runs.{Now, Vector, Turn, AreLow, IsRun}
use Rattle.dft_netlist.specs.Sound.{IsNetlist}
use Rattle.dft_config.specs.Config.{Config}
use Rattle.dft_config.specs.Ring.{Table}
use Rattle.dft_stitch.specs.Chains.{plan_of}
use Rattle.dft_cubes.specs.declared.cube.Cube.{Cube}
use Rattle.dft_cubes.specs.Laws.{AreCubes}
use Rattle.dft_merge.specs.declared.placed.Placed.TheVariants.{Into}
use Rattle.dft_merge.specs.Placement.{first_unscanned}
use Rattle.dft_patterns.specs.Patterns.{Patterns}
use Rattle.dft_stil_text.specs.PatternText.{StandsFor}
use Rattle.dft_stil_out.specs.Written.{noted}
use Rattle.dft_replay.specs.Laws.{IsRunOf, vectors_of as vectors_in}
use Rattle.dft_replay.specs.Rows.{ports_of, rows_of as replayed_rows}
use Rattle.dft_report.specs.declared.report.CubeLine.TheVariants.{Encoded}
use Rattle.dft_report.specs.declared.report.CubeReport.{CubeReport}
use Rattle.dft_cube_reports.specs.Laws.{AreReportsOf}
use Rattle.dft_scan_frame.specs.Statements.{IsReady}
use Rattle.dft_insert.specs.declared.style.Style.TheVariants.{Edt}
use Rattle.dft_insert.specs.Statements.{scanned}
use Rattle.dft_scan_behavior.specs.EdtVectors.{SuitsEdt, edt_logic}
use Rattle.dft_vectors.specs.PatternData.{PatternData}
use Rattle.dft_compile_laws.specs.Formed.{IsFormed}
use Rattle.dft_compile_laws.specs.Passing.{set_of}
use Rattle.dft_compile_laws.specs.Written.{Passes}
use Rattle.dft_load_laws.specs.Loading.{HoldBits, LoadRun, rows_of}
use Rattle.dft_compile_laws.specs.Bringing.{CaptureFrom}
use Rattle.dft_compile_laws.specs.Playing.{capture_number, flops_before}
use Rattle.dft_compile_laws.specs.Reporting.{IsExact, IsSkippedFor, entries_of}
use Rattle.dft_encode.specs.Compiled.{ArePatterns, Placing}

-- the vectors that a replay of the set of these patterns plays, and the netlist that it plays them on
abbrev pub played : Netlist → Config → List PatternData → List Vector
played n config list = vectors_in (replayed_rows (scanned Edt n config) (set_of n config list))

abbrev pub player : Netlist → Config → List PatternData → Logic
player n config list = edt_logic n config (ports_of (scanned Edt n config) (set_of n config list))

-- A pattern brings a cube: in every run over the set's vectors, under all ports that suit, where the pattern's first capture vector begins, each
-- cell of the cube has the cube's bit, and so it is in every run that a replay of the set speaks of; and its capture vectors set the cube's ports and
-- pulse its clocks, each one.
pub record IsBrought (n : Netlist) (config : Config) (list : List PatternData) (cube : Cube) (p : ℕ) : Type 0 where
  pub loaded : (ports : Ports) → SuitsEdt n config ports → (start : Now) (turns : List Turn) → IsRun (edt_logic n config ports) (played n config list) start turns →
      HoldBits (flops_before (edt_logic n config ports) (played n config list) start turns (capture_number n config list p)) cube.cells
  pub replayed : (start : Now) (turns : List Turn) → IsRunOf (scanned Edt n config) (set_of n config list) start turns → HoldBits (flops_before (player n config list) (played n config list) start turns (capture_number n config list p)) cube.cells
  pub captures : CaptureFrom n config cube (played n config list) (capture_number n config list p)

-- what a text without notes stands for
abbrev pub without_notes : Patterns → Patterns
without_notes set = record { signals = set.signals; vectors = set.vectors; notes = [] }

-- What holds of cubes that were placed so, and of the patterns that they are compiled into.
pub record HoldsOf (n : Netlist) (config : Config) (cubes : List Cube) (placing : Placing config (plan_of n config) cubes) (list : List PatternData) : Type 0 where
  -- the report has an entry for each cube, in order, which says what became of it
  pub entries : AreReportsOf n config.ring (rows_of n config placing.rows) cubes placing.placed (entries_of n config placing.rows cubes placing.placed)
  -- each cube that is reported encoded in a pattern is brought by it
  pub encoded : (c p : ℕ) (cube : Cube) (entry : CubeReport) → slice_get cubes c ≡ Some cube → slice_get (entries_of n config placing.rows cubes placing.placed) c ≡ Some entry → entry.outcome ≡ Encoded p →
      IsBrought n config list cube p
  -- a cube that names a cell which is not scanned is reported skipped, with the name of the first such cell
  pub skipped : (c : ℕ) (cube : Cube) (cell : InstanceId) → slice_get cubes c ≡ Some cube → first_unscanned (rows_of n config placing.rows) cube.cells ≡ Some cell →
      (entry : CubeReport) × (slice_get (entries_of n config placing.rows cubes placing.placed) c ≡ Some entry) × IsSkippedFor n cube cell entry
  -- each cube that was placed in a pattern is brought by it
  pub loads : (c p : ℕ) (cube : Cube) → slice_get cubes c ≡ Some cube → slice_get placing.placed c ≡ Some (Into p) → IsBrought n config list cube p
  -- what is reported of a cube of scanned cells is exact, under all ports that suit: it is encoded where some table of channel bits loads it in
  -- every run, and unsolvable where none does in any
  pub tells : (ports : Ports) → SuitsEdt n config ports → (c : ℕ) (cube : Cube) → slice_get cubes c ≡ Some cube → first_unscanned (rows_of n config placing.rows) cube.cells ≡ None →
      (entry : CubeReport) × (slice_get (entries_of n config placing.rows cubes placing.placed) c ≡ Some entry) × IsExact n config ports cube entry
  -- each table of channel bits is loaded in some run, under all ports that suit
  pub carried : (ports : Ports) → SuitsEdt n config ports → (table : Table) → LoadRun n config ports table
  -- from every start with low clocks there is a run over the set's vectors, under any ports
  pub runs : (ports : Ports) (start : Now) → AreLow start.state → (turns : List Turn) × IsRun (edt_logic n config ports) (played n config list) start turns
  -- a replay of the set passes, and every run shows what it compares as printed
  pub passes : Passes n config list
  -- where its vectors can be counted, the set is well formed and can be written, and its text stands for it
  pub formed : length (set_of n config list).vectors < 2 ^ 32 → IsFormed n config list
  pub reads : length (set_of n config list).vectors < 2 ^ 32 → StandsFor (noted (set_of n config list)) (without_notes (set_of n config list))

-- So it is for the cubes of a text and every ready design, where the scanned netlist is one whose nets have an order, as one that was
-- made is.
abbrev pub CompilationsHold : Type 0
CompilationsHold =
    (n : Netlist) (config : Config) (order : List ℕ) (cubes : List Cube) (placing : Placing config (plan_of n config) cubes) (list : List PatternData) →
    IsReady n config → IsNetlist (scanned Edt n config) → IsOrder (scanned Edt n config) order → AreCubes n config cubes →
    ArePatterns n config (plan_of n config) placing.rows placing.merged list → HoldsOf n config cubes placing list
