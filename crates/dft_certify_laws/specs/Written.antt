-- What compilations write certifies.
use Rattle.std.specs.Prelude.{ℕ, ◌≡◌, List, [], None}
use Rattle.dft_netlist.specs.Netlist.{Netlist}
use Rattle.dft_netlist.specs.Sound.{IsNetlist}
use Rattle.dft_config.specs.Config.{Config}
use Rattle.dft_config.specs.Range.{IsInRange}
use Rattle.dft_equations.specs.LoadRows.{LoadRows}
use Rattle.dft_cubes.specs.declared.cube.Cube.{Cube}
use Rattle.dft_cubes.specs.declared.cube.Merged.{Merged}
use Rattle.dft_cubes.specs.Laws.{AreCubes}
use Rattle.dft_merge.specs.declared.placed.Placed.{Placed}
use Rattle.dft_merge.specs.Placement.{PlacesAll}
use Rattle.dft_report.specs.declared.report.Report.{Report}
use Rattle.dft_cube_reports.specs.Outcomes.{cube_reports}
use Rattle.dft_load_laws.specs.Loading.{AreRows, rows_of}
use Rattle.dft_certify.specs.Certifying.{certify_refusal}

-- A report whose entries are those of the cubes of a text, which were placed so, passes every check.
abbrev pub WrittenCertifies : Type 0
WrittenCertifies =
    (n : Netlist) (config : Config) (rows : LoadRows) (window : ℕ) (cubes : List Cube) (placed : List Placed) (patterns : List Merged) (report : Report) → IsNetlist n → IsInRange config → AreRows n config rows → AreCubes n config cubes →
    PlacesAll rows.columns (rows_of n config rows) window [] cubes placed patterns → report.cubes ≡ cube_reports n config.ring (rows_of n config rows) cubes placed →
    certify_refusal n config.ring (rows_of n config rows) rows.columns cubes report ≡ None
