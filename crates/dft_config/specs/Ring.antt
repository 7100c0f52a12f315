-- The ring generator behind its channels, and the phase shifter before the chains (Rajski and others, 2004).
use Rattle.std.specs.Prelude.{ℕ, zero, suc, Bool, false, ◌&&◌, ◌==◌, ◌+◌, ◌%◌, nat_lt, List, [], ◌∷◌, get_or}
use Rattle.dft_base.specs.Solutions.{xor}
use Rattle.dft_config.specs.declared.config.Tap.{Tap}
use Rattle.dft_config.specs.declared.config.Injector.{Injector}
use Rattle.dft_config.specs.declared.config.RingConfig.{RingConfig}

-- the sum of the bits that a function gives to listed items, each as often as it is listed
abbrev pub sum_of : {T : Type 0} → (T → Bool) → List T → Bool
sum_of f [] = false
sum_of f (x ∷ xs) = xor (f x) (sum_of f xs)

-- what the taps bring to a stage from a state, and the injectors from the bits of the channels
abbrev pub tapped : List Tap → (ℕ → Bool) → ℕ → Bool
tapped taps state stage = sum_of (λ tap. (tap.to == stage) && state tap.from) taps

abbrev pub injected : List Injector → (ℕ → Bool) → ℕ → Bool
injected injectors bits stage = sum_of (λ injector. (injector.stage == stage) && bits injector.channel) injectors

-- One step of the ring, by the bits of the channels: a stage takes the bit of the stage after it, the first one's where it is
-- the last, and what taps and injectors bring. There is no bit past the last stage.
unfoldable pub step : RingConfig → (ℕ → Bool) → (ℕ → Bool) → ℕ → Bool
step ring bits state stage =
    nat_lt stage ring.stages && xor (state ((stage + 1) % ring.stages)) (xor (tapped ring.taps state stage) (injected ring.injectors bits stage))

-- a table of channel bits: for each channel and cycle its bit
abbrev pub Table : Type 0
Table = ℕ → ℕ → Bool

-- the state after so many cycles, from zero on
unfoldable pub state_after : RingConfig → Table → ℕ → ℕ → Bool
state_after ring table zero = λ stage. false
state_after ring table (suc cycle) = step ring (λ channel. table channel cycle) (state_after ring table cycle)

-- the stages whose sum a chain takes
abbrev pub phase_of : RingConfig → ℕ → List ℕ
phase_of ring chain = get_or ring.phase chain []

-- the bit that a chain takes from a state
abbrev pub phase_sum : RingConfig → ℕ → (ℕ → Bool) → Bool
phase_sum ring chain state = sum_of state (phase_of ring chain)
