-- Captures worked by hand: two flip-flops in a row, each of which takes its bit at the rise or at the fall of one clock.
use Rattle.std.specs.Prelude.{ℕ, Bool, true, false, ◌≡◌, ◌==◌, List, [], ◌∷◌, map, None, slice_index_or}
use Rattle.dft_base.specs.declared.tri.Tri.{Tri}
use Rattle.dft_base.specs.declared.tri.Tri.TheVariants.{Zero, One, Unknown}
use Rattle.dft_netlist.specs.declared.ids.InstanceId.{InstanceId}
use Rattle.dft_netlist.specs.Drivers.{Net}
use Rattle.dft_cells.specs.FlipFlops.{no_forces}
use Rattle.dft_behavior.specs.Logic.{Logic, Cell, Input, Clock, Flop, Free, no_cell, plain}
use Rattle.dft_behavior.specs.Runs.{Vector}
use Rattle.dft_expect.specs.Captures.{AreSettled, Settled, next_state}
use Rattle.dft_expect.specs.Examples.{cell}
use Rattle.dft_expect.specs.Loaded.{loaded_values}

-- a flip-flop on the clock, which takes a net
abbrev pub on_clock : (falling : Bool) → (input : ℕ) → Cell
on_clock falling input = record { domain = 0; falling = falling; takes = plain (Net input); forces = no_forces }

-- the clock, the input d, and two flip-flops: the first one takes d, and the second one what the first one shows
abbrev pub two_flops : (first_falls second_falls : Bool) → Logic
two_flops first_falls second_falls = record {
  net = λ net. slice_index_or (Clock ∷ Input ∷ Flop 0 false ∷ Flop 1 false ∷ []) net Free;
  cell = λ c. slice_index_or (on_clock first_falls 1 ∷ on_clock second_falls 2 ∷ []) c (no_cell c);
}

-- the clock pulses, and d is 1
abbrev pub pulse : Vector
pulse = record { ports = λ net. One; pulsed = λ net. net == 0 }

-- what a chain of these cells captures in it, loaded with these bits
abbrev pub ChainCaptures : Logic → List InstanceId → (loaded : List Bool) → List Tri → Type 0
ChainCaptures l cells loaded captured =
    (s : Settled) → AreSettled l (cells ∷ []) pulse (loaded_values (cells ∷ []) loaded) s →
    map (λ cell. next_state l (cells ∷ []) pulse (loaded_values (cells ∷ []) loaded) s cell.0) cells ≡ captured

-- Both are loaded with 0. The first one takes d. Behind a rising cell a falling one takes the new value, and else the second one takes the value from
-- before the vector.
pub record CellsInARow : Type 0 where
  pub both_rise : ChainCaptures (two_flops false false) (cell 0 ∷ cell 1 ∷ []) (false ∷ false ∷ []) (One ∷ Zero ∷ [])
  pub fall_behind_rise : ChainCaptures (two_flops false true) (cell 0 ∷ cell 1 ∷ []) (false ∷ false ∷ []) (One ∷ One ∷ [])
  pub rise_behind_fall : ChainCaptures (two_flops true false) (cell 0 ∷ cell 1 ∷ []) (false ∷ false ∷ []) (One ∷ Zero ∷ [])
  pub both_fall : ChainCaptures (two_flops true true) (cell 0 ∷ cell 1 ∷ []) (false ∷ false ∷ []) (One ∷ Zero ∷ [])

-- The first one is no cell of the chain: it is Unknown throughout, also where it rises before the second one falls.
pub record BehindUnscanned : Type 0 where
  pub both_rise : ChainCaptures (two_flops false false) (cell 1 ∷ []) (false ∷ []) (Unknown ∷ [])
  pub fall_behind_rise : ChainCaptures (two_flops false true) (cell 1 ∷ []) (false ∷ []) (Unknown ∷ [])
