-- Impulse responses: the states that a single 1 on a channel at cycle 0 brings.
use Rattle.std.specs.Prelude.{ℕ, Bool, ◌≡◌, ◌<◌, List, [], length, get_or}
use Rattle.dft_base.specs.Solutions.{bit_at}
use Rattle.dft_config.specs.declared.config.RingConfig.{RingConfig}
use Rattle.dft_config.specs.Ring.{state_after}
use Rattle.dft_config.specs.Loads.{single}

-- the state after this many cycles
abbrev pub state_at : List (List Bool) → ℕ → List Bool
state_at states cycles = get_or states cycles []

-- so many states of the channel's impulse response, as lists of the stages' bits
pub record IsImpulse (ring : RingConfig) (channel states : ℕ) (response : List (List Bool)) : Type 0 where
  pub count : length response ≡ states
  pub stages : (t : ℕ) → t < states → length (state_at response t) ≡ ring.stages
  pub bits : (t : ℕ) → t < states → (stage : ℕ) → bit_at (state_at response t) stage ≡ state_after ring (single channel 0) t stage

-- so many states of the impulse response of each channel
pub record AreImpulses (ring : RingConfig) (states : ℕ) (all : List (List (List Bool))) : Type 0 where
  pub count : length all ≡ ring.channels
  pub each : (channel : ℕ) → channel < ring.channels → IsImpulse ring channel states (get_or all channel [])
