-- What a load brings to the cells of all chains (Rajski and others, 2004).
use Rattle.std.specs.Prelude.{ℕ, Bool, ◌+◌, ◌*◌, ◌==◌, List, [], ◌∷◌, length, map, flat_map, Option, None, Some, if◌then◌else◌}
use Rattle.std.specs.List.{enumerate_from, range_with_len}
use Rattle.dft_base.specs.declared.tri.Tri.{Tri}
use Rattle.dft_base.specs.declared.tri.Tri.TheVariants.{Unknown}
use Rattle.dft_base.specs.Tri.{known}
use Rattle.dft_netlist.specs.declared.ids.InstanceId.{InstanceId}
use Rattle.dft_config.specs.declared.config.RingConfig.{RingConfig}
use Rattle.dft_config.specs.Ring.{Table, state_after, phase_sum}
use Rattle.dft_config.specs.Loads.{moment_of_place}

-- the cells of all chains, chain by chain, each from the one nearest the scan input on
abbrev pub all_cells : List (List InstanceId) → List InstanceId
all_cells chains = flat_map (λ cells. cells) chains

-- the table of channel bits that a row of columns has: the bit of a channel at a cycle is in column cycle * channels + channel
abbrev pub table_of : RingConfig → (bits : ℕ → Bool) → Table
table_of ring bits = λ channel cycle. bits (cycle * ring.channels + channel)

-- the bit that a load of so many cycles brings to a place of a chain, which is late or not
abbrev pub loaded_bit : RingConfig → Table → (cycles : ℕ) (late : Bool) (chain place : ℕ) → Bool
loaded_bit ring table cycles late chain place = phase_sum ring chain (state_after ring table (moment_of_place cycles late place))

-- the bits that a load brings to so many places of a chain
abbrev pub loaded_chain : RingConfig → Table → (cycles : ℕ) (late : Bool) (chain : ℕ) → (cells : ℕ) → List Bool
loaded_chain ring table cycles late chain cells = map (loaded_bit ring table cycles late chain) (range_with_len 0 cells)

-- the bits that a load brings to the cells of all chains, of which these are late, chain by chain
abbrev pub loaded_of : RingConfig → Table → (cycles : ℕ) (late : ℕ → Bool) → List (List InstanceId) → List Bool
loaded_of ring table cycles late chains = flat_map (λ chain. loaded_chain ring table cycles (late chain.0) chain.0 (length chain.1)) (enumerate_from 0 chains)

-- ---- by cell

-- the bit that a list gives a cell, where the cells stand in this order
abbrev pub bit_of_cell : List InstanceId → List Bool → (cell : ℕ) → Option Bool
bit_of_cell [] bits c = None
bit_of_cell (cell ∷ cells) [] c = None
bit_of_cell (cell ∷ cells) (bit ∷ bits) c = if cell.0 == c then Some bit else bit_of_cell cells bits c

abbrev pub or_unknown : Option Bool → Tri
or_unknown None = Unknown
or_unknown (Some bit) = known bit

-- the values of flip-flops after a load: the cells of the chains have their bits, and no other flip-flop is known
abbrev pub loaded_values : List (List InstanceId) → (loaded : List Bool) → (cell : ℕ) → Tri
loaded_values chains loaded c = or_unknown (bit_of_cell (all_cells chains) loaded c)
