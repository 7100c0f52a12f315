-- Which chains are masked while a pattern is unloaded: those in which a capture leaves something unknown, and those that always are.
use Rattle.std.specs.Prelude.{Bool, true, false, ◌||◌, List, length, map}
use Rattle.std.specs.List.{list_any, enumerate_from, range_with_len}
use Rattle.dft_base.specs.declared.tri.Tri.{Tri}
use Rattle.dft_base.specs.declared.tri.Tri.TheVariants.{Zero, One, Unknown}
use Rattle.dft_base.specs.Solutions.{bit_at}
use Rattle.dft_netlist.specs.declared.ids.InstanceId.{InstanceId}
use Rattle.dft_config.specs.Config.{Config}
use Rattle.dft_config.specs.Range.{has, same_number}
use Rattle.dft_stitch.specs.Chains.{blocks}

abbrev pub is_unknown : Tri → Bool
is_unknown Unknown = true
is_unknown Zero = false
is_unknown One = false

-- the values of the cells of each chain
abbrev pub by_chain : List (List InstanceId) → List Tri → List (List Tri)
by_chain chains values = blocks (map (λ cells. length cells) chains) values

-- for each chain whether the configuration always masks it
abbrev pub always_of : Config → List Bool
always_of config = map (has same_number config.always_masked) (range_with_len 0 config.chains)

-- a chain is masked where something in it is unknown, or always
abbrev pub is_masked : (always : Bool) → List Tri → Bool
is_masked always values = list_any is_unknown values || always

-- the mask bit of each chain
abbrev pub masks_of : (always : List Bool) → List (List Tri) → List Bool
masks_of always values = map (λ chain. is_masked (bit_at always chain.0) chain.1) (enumerate_from 0 values)
