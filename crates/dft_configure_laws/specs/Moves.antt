-- What the moves of a phase set mean, and when two sets are apart: the sums that the sets have in the cycles to come, while no channel brings a bit.
use Rattle.std.specs.Prelude.{ℕ, zero, suc, ◌≡◌, ◌<◌, ◌≤◌, Bool, true, false, List, [], get_or}
use Rattle.std.specs.List.{All}
use Rattle.dft_base.specs.Solutions.{sum_over}
use Rattle.dft_config.specs.declared.config.RingConfig.{RingConfig}
use Rattle.dft_config.specs.Range.{IsSet}
use Rattle.dft_config.specs.Ring.{step, sum_of}
use Rattle.dft_decompressor.specs.StageSets.{are_apart, moves_of}

-- the state of a ring after a cycle without channel bits, and after so many
abbrev pub quiet : RingConfig → (state : ℕ → Bool) → ℕ → Bool
quiet ring state = step ring (λ channel. false) state

abbrev pub quiet_after : RingConfig → (state : ℕ → Bool) → (cycles : ℕ) → ℕ → Bool
quiet_after ring state zero = state
quiet_after ring state (suc cycles) = quiet ring (quiet_after ring state cycles)

-- the taps of a ring leave and enter at its stages
abbrev pub HasItsTaps : RingConfig → Type 0
HasItsTaps ring = All (λ tap. (tap.from < ring.stages) × (tap.to < ring.stages)) ring.taps

-- what a set has become in so many moves, of as many as there are stages
abbrev pub move_of : RingConfig → (set : List ℕ) → (moves : ℕ) → List Bool
move_of ring set moves = get_or (moves_of ring.stages ring.taps set) moves []

-- Without channel bits the sum over a set of stages after so many cycles is the sum over what the set has become in as many moves.
abbrev pub MovesAreSums : Type 0
MovesAreSums =
    (ring : RingConfig) (set : List ℕ) (state : ℕ → Bool) (cycles : ℕ) → HasItsTaps ring → IsSet ring.stages set → cycles ≤ ring.stages →
    sum_of (quiet_after ring state cycles) set ≡ sum_over ring.stages (move_of ring set cycles) state

-- whatever the state is, the one set's sum after so many cycles is the other's now
abbrev pub Foretells : RingConfig → (set other : List ℕ) → (cycles : ℕ) → Type 0
Foretells ring set other cycles = (state : ℕ → Bool) → sum_of (quiet_after ring state cycles) set ≡ sum_of state other

-- neither sum foretells the other, now or in as many cycles as there are stages
abbrev pub NoneForetells : RingConfig → (set other : List ℕ) → Type 0
NoneForetells ring set other = (cycles : ℕ) → cycles ≤ ring.stages → (Foretells ring set other cycles → ⊥) × (Foretells ring other set cycles → ⊥)

-- Two sets are apart exactly where no sum of the one is always, so few cycles later, what that of the other is now.
abbrev pub ApartIsPlain : Type 0
ApartIsPlain =
    (ring : RingConfig) (set other : List ℕ) → HasItsTaps ring → IsSet ring.stages set → IsSet ring.stages other →
    (are_apart (moves_of ring.stages ring.taps set) (moves_of ring.stages ring.taps other) ≡ true → NoneForetells ring set other)
    × (NoneForetells ring set other → are_apart (moves_of ring.stages ring.taps set) (moves_of ring.stages ring.taps other) ≡ true)
