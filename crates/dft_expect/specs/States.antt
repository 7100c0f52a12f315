-- The states of a ring while a pattern is loaded, as lists of the stages' bits.
use Rattle.std.specs.Prelude.{ℕ, Bool, ◌≡◌, ◌-◌, ◌<◌, List, [], length, slice_index_or}
use Rattle.dft_base.specs.Solutions.{bit_at}
use Rattle.dft_config.specs.declared.config.RingConfig.{RingConfig}
use Rattle.dft_config.specs.Ring.{Table, state_after, phase_sum}
use Rattle.dft_config.specs.Loads.{moment_of_place}

-- the state after this many cycles
abbrev pub state_at : List (List Bool) → ℕ → List Bool
state_at states cycle = slice_index_or states cycle []

-- a list of bits is the ring's state after this many cycles
pub record IsState (ring : RingConfig) (table : Table) (cycle : ℕ) (state : List Bool) : Type 0 where
  pub stages : length state ≡ ring.stages
  pub bits : (stage : ℕ) → bit_at state stage ≡ state_after ring table cycle stage

-- so many states: after 0 cycles, 1 cycle and so on
pub record AreStates (ring : RingConfig) (table : Table) (many : ℕ) (states : List (List Bool)) : Type 0 where
  pub count : length states ≡ many
  pub each : (t : ℕ) → t < many → IsState ring table t (state_at states t)

-- each of these states has as many bits as the ring has stages
abbrev pub HaveStages : RingConfig → List (List Bool) → Type 0
HaveStages ring states = (t : ℕ) → t < length states → length (state_at states t) ≡ ring.stages

-- the bit that a load brings to a place of a chain, which is late or not, by the states before and after each of its cycles
abbrev pub brought : RingConfig → List (List Bool) → (late : Bool) → (chain place : ℕ) → Bool
brought ring states late chain place = phase_sum ring chain (bit_at (state_at states (moment_of_place (length states - 1) late place)))
