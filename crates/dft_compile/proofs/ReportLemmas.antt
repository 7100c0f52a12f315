-- The bytes of a report, by those before its cubes and those of their lines.
use Rattle.std.proofs.Common.{◌≡◌, ◌+◌, ◌++◌, List, [], length, refl, sym, ap, ◌∙◌, length-append, flat_map}
use Rattle.std.proofs.lemmas.List.Concat.{length-flat_map}
use Rattle.dft_netlist.specs.Netlist.{Netlist}
use Rattle.dft_config.specs.Config.{Config}
use Rattle.dft_cubes.specs.declared.cube.Cube.{Cube}
use Rattle.dft_merge.specs.declared.placed.Placed.{Placed}
use Rattle.dft_merge.specs.LoadPlan.{LoadPlan, rows_by}
use Rattle.dft_merge.specs.Rows.{cell_row}
use Rattle.dft_cube_reports.specs.Lengths.{lines_length}
use Rattle.dft_cube_reports.specs.Outcomes.{cube_reports}
use Rattle.dft_report.specs.declared.report.Report.{Report}
use Rattle.dft_stitch.specs.Chains.{plan_of}
use Rattle.dft_stitch.specs.Plans.{Plan}
use Rattle.dft_report.specs.declared.report.CubeReport.{CubeReport}
use Rattle.dft_report.specs.Written.{cube_lines, lines_before_cubes, written}
use Rattle.dft_compile.specs.Reports.{compile_report, report_with}
use Rattle.dft_compile.specs.Texts.{report_text}

-- what stands before the cubes is the same with other cubes
same_before : (n : Netlist) (config : Config) (cubes : List CubeReport) → lines_before_cubes (report_with n config cubes) ≡ lines_before_cubes (report_with n config [])
unfolding lines_before_cubes
same_before n config cubes = refl

written_is : (n : Netlist) (config : Config) (cubes : List CubeReport) → written (report_with n config cubes) ≡ lines_before_cubes (report_with n config cubes) ++ flat_map cube_lines cubes
unfolding written
written_is n config cubes = refl

pub report_length : (n : Netlist) (config : Config) (cubes : List CubeReport) → length (written (report_with n config cubes)) ≡ length (lines_before_cubes (report_with n config [])) + lines_length cubes
report_length n config cubes =
    ap length (written_is n config cubes)
    ∙ length-append (lines_before_cubes (report_with n config cubes)) (flat_map cube_lines cubes)
    ∙ ap (λ k. length (lines_before_cubes (report_with n config cubes)) + k) (length-flat_map cube_lines cubes)
    ∙ ap (λ l. length l + lines_length cubes) (same_before n config cubes)

-- the entries of the cubes, in the words of the planned chains
reports_are : (l : LoadPlan) (cubes : List Cube) (placed : List Placed) → l.plan ≡ plan_of l.design l.config →
    cube_reports l.design l.config.ring (rows_by l) cubes placed ≡ cube_reports l.design l.config.ring (cell_row (plan_of l.design l.config).chains l.rows) cubes placed
reports_are l cubes placed planned = ap (λ (p : Plan). cube_reports l.design l.config.ring (cell_row p.chains l.rows) cubes placed) planned

-- the bytes that are told are those of the text
pub bytes_are : (l : LoadPlan) (cubes : List Cube) (placed : List Placed) (r : Report) → l.plan ≡ plan_of l.design l.config → r ≡ report_with l.design l.config [] →
    length (lines_before_cubes r) + lines_length (cube_reports l.design l.config.ring (rows_by l) cubes placed) ≡ length (report_text l.design l.config l.rows cubes placed)
bytes_are l cubes placed r planned is =
    let n = l.design in
    let config = l.config in
    let reports : List CubeReport = cube_reports n config.ring (cell_row (plan_of n config).chains l.rows) cubes placed in
    ap (λ (x : Report). length (lines_before_cubes x) + lines_length (cube_reports n config.ring (rows_by l) cubes placed)) is
    ∙ ap (λ (rs : List CubeReport). length (lines_before_cubes (report_with n config [])) + lines_length rs) (reports_are l cubes placed planned)
    ∙ sym (report_length n config reports)

-- the report with the entries of the cubes
pub report_is : (l : LoadPlan) (cubes : List Cube) (placed : List Placed) (r : Report) (reports : List CubeReport) → l.plan ≡ plan_of l.design l.config → r ≡ report_with l.design l.config [] →
    reports ≡ cube_reports l.design l.config.ring (rows_by l) cubes placed → record r { cubes = reports } ≡ compile_report l.design l.config (cell_row (plan_of l.design l.config).chains l.rows) cubes placed
report_is l cubes placed r reports planned is are =
    ap (λ (x : Report). record x { cubes = reports }) is ∙ ap (λ (rs : List CubeReport). report_with l.design l.config rs) (are ∙ reports_are l cubes placed planned)
