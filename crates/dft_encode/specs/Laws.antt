-- Laws of compiled patterns.
use Rattle.std.specs.Prelude.{ℕ, ◌≡◌, ◌+◌, ◌*◌, List, [], ◌∷◌, map, length}
use Rattle.std.specs.List.{All}
use Rattle.dft_netlist.specs.Netlist.{Netlist}
use Rattle.dft_config.specs.Config.{Config}
use Rattle.dft_stitch.specs.Plans.{Plan}
use Rattle.dft_patterns.specs.Steadiness.{HaveLength}
use Rattle.dft_cubes.specs.Domains.{captures_of}
use Rattle.dft_expect.specs.Captures.{output_bits}
use Rattle.dft_vectors.specs.Signals.{input_bits}
use Rattle.dft_vectors.specs.PatternData.{PatternData, merged_of}
use Rattle.dft_vectors.specs.VectorList.{captures_in, vectors_for, vectors_of}

-- how many acts a vector has: the design's inputs and the added ones, the design's outputs and the added ones
abbrev pub width : Netlist → Config → ℕ
width n config = length (input_bits n.ports) + (3 + (config.ring.channels + config.compactor.mask_inputs)) + (length (output_bits n.ports) + length config.compactor.groups)

-- how many vectors patterns take with so many captures each: a set-up vector, a load and the captures for each, and the last load
abbrev pub vectors_in : (cycles : ℕ) → (captures : List ℕ) → ℕ
vectors_in cycles [] = 0
vectors_in cycles (count ∷ captures) = 1 + vectors_for cycles (count ∷ captures) + cycles

-- what a pattern captures has a value for each bit of the design's outputs in each of its capture vectors
abbrev pub HasOutputs : Netlist → PatternData → Type 0
HasOutputs n p = length p.response.outputs ≡ captures_of p.merged * length (output_bits n.ports)

-- Each vector has so many acts, where the captured outputs are so many; and there are so many vectors.
abbrev pub VectorsHaveWidth : Type 0
VectorsHaveWidth =
    (n : Netlist) (config : Config) (plan : Plan) (patterns : List PatternData) → All (HasOutputs n) patterns →
    HaveLength (width n config) (vectors_of n config plan patterns) × (length (vectors_of n config plan patterns) ≡ vectors_in plan.cycles (captures_in (map merged_of patterns)))
