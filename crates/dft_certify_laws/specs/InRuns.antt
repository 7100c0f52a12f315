-- What a certified report tells of runs (Rajski and others, 2004).
use Rattle.std.specs.Prelude.{ℕ, ◌≡◌, List, None, Some, slice_get}
use Rattle.dft_behavior.specs.Logic.{Ports}
use Rattle.dft_netlist.specs.Netlist.{Netlist}
use Rattle.dft_config.specs.Config.{Config}
use Rattle.dft_config.specs.Ring.{Table}
use Rattle.dft_equations.specs.LoadRows.{LoadRows}
use Rattle.dft_cubes.specs.declared.cube.Cube.{Cube}
use Rattle.dft_report.specs.declared.report.CubeLine.TheVariants.{Unsolvable}
use Rattle.dft_report.specs.declared.report.CubeReport.{CubeReport}
use Rattle.dft_report.specs.declared.report.Report.{Report}
use Rattle.dft_report.specs.declared.report.SumLine.{SumLine}
use Rattle.dft_scan_frame.specs.Statements.{IsReady}
use Rattle.dft_scan_behavior.specs.EdtVectors.{SuitsEdt}
use Rattle.dft_load_laws.specs.Loading.{AreRows, LoadsOnce, rows_of}
use Rattle.dft_certify.specs.Certifying.{certify_refusal, cube_named}

-- Where no check of a report fails, no table loads a cube that it calls unsolvable, in any run of the scanned netlist.
abbrev pub CertifiedInRuns : Type 0
CertifiedInRuns =
    (n : Netlist) (config : Config) (ports : Ports) (rows : LoadRows) (cubes : List Cube) (report : Report) → IsReady n config → SuitsEdt n config ports → AreRows n config rows →
    certify_refusal n config.ring (rows_of n config rows) rows.columns cubes report ≡ None →
    (k : ℕ) (entry : CubeReport) (lines : List SumLine) (cube : Cube) → slice_get report.cubes k ≡ Some entry → entry.outcome ≡ Unsolvable lines → cube_named cubes entry.name ≡ Some cube →
    (table : Table) → LoadsOnce n config ports table cube.cells → ⊥
