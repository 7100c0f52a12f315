-- What the outputs of the compactor show while a pattern is unloaded and the next one is loaded.
use Rattle.std.specs.Prelude.{ℕ, Bool, true, false, not, ◌&&◌, ◌+◌, ◌-◌, nat_lt, List, [], length, map, flat_map, slice_index_or, if◌then◌else◌}
use Rattle.std.specs.List.{range_with_len}
use Rattle.dft_base.specs.declared.tri.Tri.{Tri}
use Rattle.dft_base.specs.declared.tri.Tri.TheVariants.{Zero, One, Unknown}
use Rattle.dft_base.specs.Solutions.{bit_at}
use Rattle.dft_config.specs.declared.config.RingConfig.{RingConfig}
use Rattle.dft_config.specs.Ring.{Table, sum_of, state_after, phase_sum}
use Rattle.dft_config.specs.Loads.{delay}

abbrev pub is_one : Tri → Bool
is_one One = true
is_one Zero = false
is_one Unknown = false

-- the value of the cell so many places from the end of a chain
abbrev pub from_end : List Tri → ℕ → Tri
from_end values t = slice_index_or values (length values - 1 - t) Unknown

-- What a chain shows in a cycle: the captured cells from its end on, and then the bits that entered it in the load that is running, the
-- first one first; these come a cycle later where the chain is late.
abbrev pub shown_by : RingConfig → (running : Table) → (late : Bool) → (chain : ℕ) → List Tri → (cycle : ℕ) → Bool
shown_by ring running late chain values t =
    if nat_lt t (length values) then is_one (from_end values t) else phase_sum ring chain (state_after ring running (t - length values + delay late))

abbrev pub chain_at : List (List Tri) → (chain : ℕ) → List Tri
chain_at values chain = slice_index_or values chain []

-- what a chain brings to an output in a cycle: nothing where it is masked
abbrev pub counted_by : RingConfig → (running : Table) → (late : ℕ → Bool) → (masks : List Bool) → List (List Tri) → (cycle chain : ℕ) → Bool
counted_by ring running late masks values t chain = not (bit_at masks chain) && shown_by ring running (late chain) chain (chain_at values chain) t

-- what an output shows in a cycle: the sum over the chains of its group that are not masked
abbrev pub output_bit : RingConfig → (running : Table) → (late : ℕ → Bool) → (masks : List Bool) → List (List Tri) → (cycle : ℕ) → (group : List ℕ) → Bool
output_bit ring running late masks values t group = sum_of (counted_by ring running late masks values t) group

-- for each cycle of a load, for each output its bit
abbrev pub expected_of : RingConfig → (groups : List (List ℕ)) → (running : Table) → (late : ℕ → Bool) → (masks : List Bool) → List (List Tri) → (cycles : ℕ) → List Bool
expected_of ring groups running late masks values cycles = flat_map (λ t. map (output_bit ring running late masks values t) groups) (range_with_len 0 cycles)
