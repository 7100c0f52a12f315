-- What a compilation writes certifies.
use Rattle.std.specs.Prelude.{◌≡◌, List, None}
use Rattle.dft_netlist.specs.Netlist.{Netlist}
use Rattle.dft_config.specs.Config.{Config}
use Rattle.dft_stitch.specs.Chains.{plan_of}
use Rattle.dft_cubes.specs.declared.cube.Cube.{Cube}
use Rattle.dft_cubes.specs.Laws.{AreCubes}
use Rattle.dft_scan_frame.specs.Statements.{IsReady}
use Rattle.dft_load_laws.specs.Loading.{rows_of}
use Rattle.dft_encode.specs.Compiled.{Placing}
use Rattle.dft_compile.specs.Reports.{compile_report}
use Rattle.dft_certify.specs.Certifying.{certify_refusal}

-- The report of a compilation passes every check against the same design, configuration and cubes.
abbrev pub CompiledCertifies : Type 0
CompiledCertifies =
    (n : Netlist) (config : Config) (cubes : List Cube) (placing : Placing config (plan_of n config) cubes) → IsReady n config → AreCubes n config cubes →
    certify_refusal n config.ring (rows_of n config placing.rows) placing.rows.columns cubes (compile_report n config (rows_of n config placing.rows) cubes placing.placed) ≡ None
