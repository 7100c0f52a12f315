-- What a report says of cubes is so in every run (Rajski and others, 2004).
use Rattle.std.specs.Prelude.{ℕ, ◌≡◌, ◌↔◌, List, [], None, Some, slice_get}
use Rattle.dft_base.specs.Lexing.{Text}
use Rattle.dft_netlist.specs.declared.ids.InstanceId.{InstanceId}
use Rattle.dft_behavior.specs.Logic.{Ports}
use Rattle.dft_netlist.specs.Netlist.{Netlist}
use Rattle.dft_behavior.specs.Runs.{Now, Turn}
use Rattle.dft_netlist.specs.Sound.{IsNetlist}
use Rattle.dft_config.specs.Config.{Config}
use Rattle.dft_config.specs.Ring.{Table}
use Rattle.dft_equations.specs.LoadRows.{LoadRows}
use Rattle.dft_cubes.specs.declared.cube.Cube.{Cube}
use Rattle.dft_cubes.specs.declared.cube.Merged.{Merged}
use Rattle.dft_cubes.specs.Laws.{AreCubes}
use Rattle.dft_merge.specs.declared.placed.Placed.{Placed}
use Rattle.dft_merge.specs.Placement.{PlacesAll, first_unscanned}
use Rattle.dft_replay.specs.Laws.{IsRunOf, vectors_of as vectors_in}
use Rattle.dft_replay.specs.Rows.{ports_of, rows_of as replayed_rows}
use Rattle.dft_report.specs.declared.report.CubeLine.{CubeLine}
use Rattle.dft_report.specs.declared.report.CubeLine.TheVariants.{Encoded, Unsolvable, Skipped}
use Rattle.dft_report.specs.declared.report.CubeReport.{CubeReport}
use Rattle.dft_report.specs.declared.report.SumLine.{SumLine}
use Rattle.dft_cube_reports.specs.Outcomes.{cell_name as name_of_cell, cube_reports}
use Rattle.dft_scan_frame.specs.Statements.{IsReady}
use Rattle.dft_insert.specs.declared.style.Style.TheVariants.{Edt}
use Rattle.dft_insert.specs.Statements.{scanned}
use Rattle.dft_scan_behavior.specs.EdtVectors.{SuitsEdt, edt_logic}
use Rattle.dft_vectors.specs.PatternData.{PatternData}
use Rattle.dft_compile_laws.specs.Passing.{set_of}
use Rattle.dft_load_laws.specs.Loading.{AreRows, HoldBits, LoadsAlways, LoadsOnce, rows_of}
use Rattle.dft_compile_laws.specs.Bringing.{AreCompiled, CaptureFrom}
use Rattle.dft_compile_laws.specs.Playing.{capture_number, flops_before}

-- the entries of the report for these cubes, of which this became
abbrev pub entries_of : Netlist → Config → LoadRows → List Cube → List Placed → List CubeReport
entries_of n config rows cubes placed = cube_reports n config.ring (rows_of n config rows) cubes placed

-- In every run of the scanned netlist over its compiled set, where the first capture vector of a pattern begins, each cell of each cube
-- that is reported encoded in it has the cube's bit; and its capture vectors set the cube's ports and pulse its clocks, each one.
abbrev pub EncodedAreBrought : Type 0
EncodedAreBrought =
    (n : Netlist) (config : Config) (rows : LoadRows) (window : ℕ) (cubes : List Cube) (placed : List Placed) (patterns : List PatternData) (start : Now) (turns : List Turn) →
    let w = scanned Edt n config in
    let set = set_of n config patterns in
    let xs = vectors_in (replayed_rows w set) in
    IsReady n config → IsNetlist w → AreCubes n config cubes → AreCompiled n config rows window cubes placed patterns → IsRunOf w set start turns →
    (c p : ℕ) (cube : Cube) (entry : CubeReport) → slice_get cubes c ≡ Some cube → slice_get (entries_of n config rows cubes placed) c ≡ Some entry → entry.outcome ≡ Encoded p →
    HoldBits (flops_before (edt_logic n config (ports_of w set)) xs start turns (capture_number n config patterns p)) cube.cells
    × CaptureFrom n config cube xs (capture_number n config patterns p)

abbrev pub IsEncoded : CubeLine → Type 0
IsEncoded line = (p : ℕ) × (line ≡ Encoded p)

abbrev pub IsNever : CubeLine → Type 0
IsNever line = (sums : List SumLine) × (line ≡ Unsolvable sums)

-- the entry says that the cube is skipped for this cell, by its name
pub record IsSkippedFor (n : Netlist) (cube : Cube) (cell : InstanceId) (entry : CubeReport) : Type 0 where
  pub name : entry.name ≡ cube.name
  pub cell_name : Text
  pub named : name_of_cell n cell ≡ Some cell_name
  pub outcome : entry.outcome ≡ Skipped cell_name

-- Of the cubes that are placed one that names a cell which is not scanned has an entry that it is skipped, for the first such cell.
abbrev pub UnscannedAreSkipped : Type 0
UnscannedAreSkipped =
    (n : Netlist) (config : Config) (rows : LoadRows) (window : ℕ) (cubes : List Cube) (placed : List Placed) (patterns : List Merged) → AreCubes n config cubes →
    PlacesAll rows.columns (rows_of n config rows) window [] cubes placed patterns → (c : ℕ) (cube : Cube) (cell : InstanceId) → slice_get cubes c ≡ Some cube → first_unscanned (rows_of n config rows) cube.cells ≡ Some cell →
    (entry : CubeReport) × (slice_get (entries_of n config rows cubes placed) c ≡ Some entry) × IsSkippedFor n cube cell entry

-- the entry of a cube is exact: encoded where some table of channel bits loads it in every run, and unsolvable where none does in any
pub record IsExact (n : Netlist) (config : Config) (ports : Ports) (cube : Cube) (entry : CubeReport) : Type 0 where
  pub name : entry.name ≡ cube.name
  pub encoded : IsEncoded entry.outcome ↔ ((table : Table) × LoadsAlways n config ports table cube.cells)
  pub unsolvable : IsNever entry.outcome ↔ ((table : Table) → LoadsOnce n config ports table cube.cells → ⊥)

-- Of the cubes of a text that are placed each has an entry, which is exact where all its cells are scanned.
abbrev pub EntriesAreExact : Type 0
EntriesAreExact =
    (n : Netlist) (config : Config) (ports : Ports) (rows : LoadRows) (window : ℕ) (cubes : List Cube) (placed : List Placed) (patterns : List Merged) → IsReady n config → SuitsEdt n config ports → AreRows n config rows → AreCubes n config cubes →
    PlacesAll rows.columns (rows_of n config rows) window [] cubes placed patterns → (c : ℕ) (cube : Cube) → slice_get cubes c ≡ Some cube → first_unscanned (rows_of n config rows) cube.cells ≡ None →
    (entry : CubeReport) × (slice_get (entries_of n config rows cubes placed) c ≡ Some entry) × IsExact n config ports cube entry
