-- What the patterns of merged cubes are.
use Rattle.std.specs.Prelude.{◌≡◌, List}
use Rattle.dft_netlist.specs.Netlist.{Netlist}
use Rattle.dft_config.specs.Config.{Config}
use Rattle.dft_equations.specs.LoadRows.{LoadRows}
use Rattle.dft_stitch.specs.Plans.{Plan}
use Rattle.dft_cubes.specs.declared.cube.Merged.{Merged}
use Rattle.dft_vectors.specs.PatternData.{PatternData}
use Rattle.dft_vectors.specs.VectorList.{patterns_of}
use Rattle.dft_encode.specs.declared.encoding.Encoded.{Encoded}
use Rattle.dft_encode.specs.Compiled.{ArePatterns}
use Rattle.dft_encode.specs.Counts.{masked_in}

-- the set of the patterns of these merged cubes, in the signals of the written netlist, and how many chains are masked in them
pub record IsEncoded (written n : Netlist) (config : Config) (plan : Plan) (rows : LoadRows) (merged : List Merged) (e : Encoded) : Type 0 where
  pub list : List PatternData
  pub are : ArePatterns n config plan rows merged list
  pub set : e.set ≡ patterns_of written n config plan list
  pub masked : e.masked ≡ masked_in list
