-- What a compilation saves as its report is read, and certifies.
use Rattle.std.specs.Prelude.{◌≡◌, List, length, map, None, Ok}
use Rattle.dft_netlist.specs.Netlist.{Netlist}
use Rattle.dft_config.specs.Config.{Config}
use Rattle.dft_equations.specs.LoadRows.{AreLoadEquations, LoadRows}
use Rattle.dft_stitch.specs.Chains.{plan_of}
use Rattle.dft_stitch.specs.Plans.{falling_head}
use Rattle.dft_cubes.specs.declared.cube.Cube.{Cube}
use Rattle.dft_cubes.specs.Laws.{AreCubes}
use Rattle.dft_report.specs.declared.report.Report.{Report}
use Rattle.dft_report_reader.specs.Reading.{report_of}
use Rattle.dft_scan_frame.specs.Statements.{IsReady}
use Rattle.dft_load_laws.specs.Loading.{rows_of}
use Rattle.dft_compile.specs.Compilation.{IsCompileOf}
use Rattle.dft_compile.specs.declared.texts.CompileTexts.{CompileTexts}
use Rattle.dft_certify.specs.Certifying.{certify_refusal}

-- The text of the report is read as a report that passes every check against the same design, configuration and cubes, over whatever load
-- equations of the planned chains it is checked.
abbrev pub CompiledReportIsRead : Type 0
CompiledReportIsRead =
    (n : Netlist) (config : Config) (cubes : List Cube) (t : CompileTexts) (rows : LoadRows) → IsCompileOf n config cubes t → IsReady n config → AreCubes n config cubes →
    AreLoadEquations config.ring (map (λ cells. length cells) (plan_of n config).chains) (falling_head (plan_of n config)) (plan_of n config).cycles rows →
    (report : Report) × (report_of t.report.items ≡ Ok report) × (certify_refusal n config.ring (rows_of n config rows) rows.columns cubes report ≡ None)
