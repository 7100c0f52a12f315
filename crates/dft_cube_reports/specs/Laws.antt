-- That each cube has its lines.
use Rattle.std.specs.Prelude.{ℕ, ◌≡◌, Bool, List, [], length, Some, slice_get, unwrap_or}
use Rattle.dft_base.specs.Lexing.{Text}
use Rattle.dft_netlist.specs.declared.ids.InstanceId.{InstanceId}
use Rattle.dft_netlist.specs.Netlist.{Netlist}
use Rattle.dft_config.specs.Config.{Config}
use Rattle.dft_config.specs.declared.config.RingConfig.{RingConfig}
use Rattle.dft_cubes.specs.declared.cube.Cube.{Cube}
use Rattle.dft_cubes.specs.declared.cube.Merged.{Merged}
use Rattle.dft_cubes.specs.Laws.{AreCubes}
use Rattle.dft_merge.specs.declared.placed.Placed.{Placed}
use Rattle.dft_merge.specs.declared.placed.Placed.TheVariants.{Into, Unsolvable, Skipped}
use Rattle.dft_merge.specs.Placement.{PlacesAll}
use Rattle.dft_merge.specs.Rows.{CellRows}
use Rattle.dft_report.specs.declared.report.CubeLine.{CubeLine}
use Rattle.dft_report.specs.declared.report.CubeLine.TheVariants as line
use Rattle.dft_report.specs.declared.report.CubeReport.{CubeReport}
use Rattle.dft_report.specs.declared.report.SumLine.{SumLine}
use Rattle.dft_cube_reports.specs.Outcomes.{cell_name, cube_reports, sum_as}

-- this is the sum that the cell at a position takes, under its name
pub record IsSumAt (n : Netlist) (ring : RingConfig) (row : CellRows) (cells : List (InstanceId × Bool)) (position : ℕ) (sum : SumLine) : Type 0 where
  pub given : InstanceId × Bool
  pub at : slice_get cells position ≡ Some given
  pub name : Text
  pub named : cell_name n given.0 ≡ Some name
  pub is : sum ≡ sum_as ring (unwrap_or (row given.0) []) given.1 name

-- there is a sum for each position of a certificate, in order
pub record AreSumsAt (n : Netlist) (ring : RingConfig) (row : CellRows) (cells : List (InstanceId × Bool)) (positions : List ℕ) (sums : List SumLine) : Type 0 where
  pub count : length sums ≡ length positions
  pub each : (k position : ℕ) → slice_get positions k ≡ Some position → (sum : SumLine) × (slice_get sums k ≡ Some sum) × IsSumAt n ring row cells position sum

-- the line says what became of the cube: its pattern, all sums of its certificate, or the name of the cell that is not scanned
abbrev pub Says : Netlist → RingConfig → CellRows → Cube → Placed → CubeLine → Type 0
Says n ring row cube (Into pattern) outcome = outcome ≡ line.Encoded pattern
Says n ring row cube (Unsolvable positions) outcome = (sums : List SumLine) × (outcome ≡ line.Unsolvable sums) × AreSumsAt n ring row cube.cells positions sums
Says n ring row cube (Skipped cell) outcome = (name : Text) × (outcome ≡ line.Skipped name) × (cell_name n cell ≡ Some name)

-- the entry is that of this cube
pub record IsReportOf (n : Netlist) (ring : RingConfig) (row : CellRows) (cube : Cube) (placed : Placed) (r : CubeReport) : Type 0 where
  pub name : r.name ≡ cube.name
  pub says : Says n ring row cube placed r.outcome

-- there is an entry for each cube, in order
pub record AreReportsOf (n : Netlist) (ring : RingConfig) (row : CellRows) (cubes : List Cube) (placed : List Placed) (reports : List CubeReport) : Type 0 where
  pub count : length reports ≡ length cubes
  pub each : (c : ℕ) (cube : Cube) (p : Placed) → slice_get cubes c ≡ Some cube → slice_get placed c ≡ Some p → (r : CubeReport) × (slice_get reports c ≡ Some r) × IsReportOf n ring row cube p r

-- Of the cubes of a text that are placed there is an entry for each, and no line of it is left out.
abbrev pub CubesHaveLines : Type 0
CubesHaveLines =
    (n : Netlist) (config : Config) (columns : ℕ) (row : CellRows) (window : ℕ) (old new : List Merged) (cubes : List Cube) (placed : List Placed) → AreCubes n config cubes → PlacesAll columns row window old cubes placed new →
    AreReportsOf n config.ring row cubes placed (cube_reports n config.ring row cubes placed)
