-- Laws of compilations.
use Rattle.std.specs.Prelude.{◌≡◌, List, length}
use Rattle.dft_netlist.specs.Netlist.{Netlist}
use Rattle.dft_config.specs.Config.{Config}
use Rattle.dft_config.specs.Range.{IsInRange}
use Rattle.dft_equations.specs.LoadRows.{LoadRows}
use Rattle.dft_stitch.specs.Chains.{plan_of}
use Rattle.dft_cubes.specs.declared.cube.Merged.{Merged}
use Rattle.dft_vectors.specs.PatternData.{PatternData}
use Rattle.dft_encode.specs.Compiled.{ArePatterns}
use Rattle.dft_compile.specs.Refusals.{pattern_bytes}
use Rattle.dft_compile.specs.Texts.{pattern_text}

-- The bytes that are told before any pattern is made are those of the text of the patterns.
abbrev pub BytesAreTold : Type 0
BytesAreTold =
    (n : Netlist) (config : Config) (rows : LoadRows) (merged : List Merged) (list : List PatternData) → IsInRange config → ArePatterns n config (plan_of n config) rows merged list →
    length (pattern_text n config list) ≡ pattern_bytes n config merged
