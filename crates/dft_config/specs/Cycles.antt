-- The cycles of a load (Rajski and others, 2004).
use Rattle.std.specs.Prelude.{ℕ, ◌+◌, ◌/◌, ◌%◌, max, nat_lt, if◌then◌else◌}
use Rattle.dft_config.specs.Config.{Config}

-- the length of a part where a number of items is cut into parts one after the other, the first ones one longer
abbrev pub part_length : ℕ → ℕ → ℕ → ℕ
part_length items parts part = items / parts + (if nat_lt part (items % parts) then 1 else 0)

-- the chains of the longest mask segment, which is the first
abbrev pub longest_segment : Config → ℕ
longest_segment config = part_length config.chains config.compactor.mask_inputs 0

-- the cycles of a load: enough to fill the longest chain after the warm cycles, and to send the longest mask segment
abbrev pub load_cycles : Config → ℕ → ℕ
load_cycles config longest = max (config.warm + longest) (longest_segment config)
