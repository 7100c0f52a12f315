-- The report of a compilation: what the report of a scan says, the load, and what became of each cube.
use Rattle.std.specs.Prelude.{◌*◌, List, Some}
use Rattle.dft_netlist.specs.Netlist.{Netlist}
use Rattle.dft_config.specs.Config.{Config}
use Rattle.dft_stitch.specs.Chains.{plan_of}
use Rattle.dft_stitch.specs.Plans.{Plan}
use Rattle.dft_cubes.specs.declared.cube.Cube.{Cube}
use Rattle.dft_merge.specs.declared.placed.Placed.{Placed}
use Rattle.dft_merge.specs.Rows.{CellRows}
use Rattle.dft_cube_reports.specs.Outcomes.{cube_reports}
use Rattle.dft_report.specs.declared.report.CubeReport.{CubeReport}
use Rattle.dft_report.specs.declared.report.Load.{Load}
use Rattle.dft_report.specs.declared.report.Report.{Report}
use Rattle.dft_scan.specs.Reports.{report_of}

-- the cycles of a load, and its variables
abbrev pub load_line : Config → Plan → Load
load_line config plan = record { cycles = plan.cycles; variables = plan.cycles * config.ring.channels }

-- the report of a scan, with the load and these cubes
abbrev pub report_with : Netlist → Config → List CubeReport → Report
report_with n config cubes =
    let scan = report_of n config in record {
      header = record { cells = scan.header.cells; chains = scan.header.chains; load = Some (load_line config (plan_of n config)) };
      chains = scan.chains;
      scanned = scan.scanned;
      unscanned = scan.unscanned;
      cubes = cubes;
    }

-- the report where this became of the cubes
abbrev pub compile_report : Netlist → Config → CellRows → List Cube → List Placed → Report
compile_report n config row cubes placed = report_with n config (cube_reports n config.ring row cubes placed)
