-- What a certified report tells.
use Rattle.std.specs.Prelude.{ℕ, ◌≡◌, ◌↔◌, ◌<◌, Bool, true, false, List, [], None, Some, slice_get, unwrap_or}
use Rattle.dft_netlist.specs.declared.ids.InstanceId.{InstanceId}
use Rattle.dft_netlist.specs.Netlist.{Netlist}
use Rattle.dft_config.specs.declared.config.RingConfig.{RingConfig}
use Rattle.dft_cubes.specs.declared.cube.Cube.{Cube}
use Rattle.dft_merge.specs.Placement.{Loads}
use Rattle.dft_merge.specs.Rows.{CellRows}
use Rattle.dft_report.specs.declared.report.CubeLine.TheVariants.{Unsolvable}
use Rattle.dft_report.specs.declared.report.CubeReport.{CubeReport}
use Rattle.dft_report.specs.declared.report.Report.{Report}
use Rattle.dft_report.specs.declared.report.SumLine.{SumLine}
use Rattle.dft_cube_reports.specs.Outcomes.{variables_of}
use Rattle.dft_certify.specs.Certifying.{certify_refusal, cube_named, has_column, odd_in, scanned_named}

-- a line is the sum of a care bit of a cube: of a scanned cell, for the bit that the cube gives it, with the variables that it sums, in column order
pub record IsSumOf (n : Netlist) (ring : RingConfig) (row : CellRows) (cells : List (InstanceId × Bool)) (line : SumLine) : Type 0 where
  pub cell : InstanceId
  pub named : scanned_named n row line.name ≡ Some cell
  pub place : ℕ
  pub care : slice_get cells place ≡ Some (cell, line.bit)
  pub variables : line.variables ≡ variables_of ring (unwrap_or (row cell) [])

-- lines are sums of care bits of a cube, each cell stands in one of them at most, no column is in an odd number of them, and their bits sum to 1
pub record IsCertified (n : Netlist) (ring : RingConfig) (row : CellRows) (columns : ℕ) (cells : List (InstanceId × Bool)) (lines : List SumLine) : Type 0 where
  pub each : (k : ℕ) (line : SumLine) → slice_get lines k ≡ Some line → IsSumOf n ring row cells line
  pub once : (j k : ℕ) (a b : SumLine) → slice_get lines j ≡ Some a → slice_get lines k ≡ Some b → scanned_named n row a.name ≡ scanned_named n row b.name → j ≡ k
  pub even : (column : ℕ) → column < columns → odd_in (has_column n row column) lines ≡ false
  pub odd : odd_in (λ line. line.bit) lines ≡ true

-- the sums printed for each cube that is reported unsolvable certify the cube of that name
abbrev pub AllCertified : Netlist → RingConfig → CellRows → (columns : ℕ) → List Cube → List CubeReport → Type 0
AllCertified n ring row columns cubes entries =
    (k : ℕ) (entry : CubeReport) (lines : List SumLine) → slice_get entries k ≡ Some entry → entry.outcome ≡ Unsolvable lines →
    (cube : Cube) × (cube_named cubes entry.name ≡ Some cube) × IsCertified n ring row columns cube.cells lines

-- No check fails exactly where all are certified.
abbrev pub CertifiedExactly : Type 0
CertifiedExactly =
    (n : Netlist) (ring : RingConfig) (row : CellRows) (columns : ℕ) (cubes : List Cube) (report : Report) →
    (certify_refusal n ring row columns cubes report ≡ None) ↔ AllCertified n ring row columns cubes report.cubes

-- No channel bits load a cube that sums certify.
abbrev pub CertifiedIsNever : Type 0
CertifiedIsNever =
    (n : Netlist) (ring : RingConfig) (row : CellRows) (columns : ℕ) (cells : List (InstanceId × Bool)) (lines : List SumLine) → IsCertified n ring row columns cells lines →
    (bits : ℕ → Bool) → Loads columns row bits cells → ⊥
