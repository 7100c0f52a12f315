-- The outputs and the masks of a made configuration.
use Rattle.std.specs.Prelude.{ℕ, ◌+◌, ◌-◌, ◌/◌, ◌%◌, ◌==◌, Bool, List, map, filter, find, min, nat_le, Option, unwrap_or}
use Rattle.std.specs.List.{range_with_len}

-- a number that is wished, or else this one
abbrev pub wished_or : Option ℕ → ℕ → ℕ
wished_or wished other = unwrap_or wished other

-- the outputs: as many as channels, and at most the chains
abbrev pub outputs_of : (chains channels : ℕ) → (wished : Option ℕ) → ℕ
outputs_of chains channels wished = wished_or wished (min channels chains)

-- the chains of an output: each so many chains one, so that neighbours come to different outputs
abbrev pub is_of : (outputs output chain : ℕ) → Bool
is_of outputs output chain = chain % outputs == output

abbrev pub group_of : (chains outputs output : ℕ) → List ℕ
group_of chains outputs output = filter (is_of outputs output) (range_with_len 0 chains)

unfoldable pub groups_of : (chains outputs : ℕ) → List (List ℕ)
groups_of chains outputs = map (group_of chains outputs) (range_with_len 0 outputs)

-- whether the longest segment of so many mask inputs is sent in so many cycles
abbrev pub are_enough : (chains cycles masks : ℕ) → Bool
are_enough chains cycles masks = nat_le ((chains + (masks - 1)) / masks) cycles

-- the fewest mask inputs that send the masks of all chains in so many cycles, or else as many as there may be
abbrev pub fewest_masks : (chains cycles : ℕ) → ℕ
fewest_masks chains cycles = unwrap_or (find (are_enough chains cycles) (range_with_len 1 (min chains 32))) (min chains 32)

-- the mask inputs, where so many cycles fill the chains
abbrev pub masks_of : (chains cycles : ℕ) → (wished : Option ℕ) → ℕ
masks_of chains cycles wished = wished_or wished (fewest_masks chains cycles)
