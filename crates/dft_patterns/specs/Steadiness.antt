-- Signals that pulse. A pulse ends low, so the signal may not be high in another vector, nor left unset.
use Rattle.std.specs.Prelude.{◌≡◌, ℕ, suc, Bool, true, false, ◌&&◌, if◌then◌else◌, List, [], ◌∷◌, length, get_or, Option, Some, None, All}
use Rattle.std.specs.List.{list_any}
use Rattle.dft_patterns.specs.declared.act.Act.{Act}
use Rattle.dft_patterns.specs.declared.act.Act.TheVariants.{Unset, High, Pulse, Ignore}
use Rattle.dft_patterns.specs.declared.steadiness.Unsteady.{Unsteady}
use Rattle.dft_patterns.specs.Patterns.{Patterns}

abbrev pub is_pulse : Act → Bool
is_pulse Pulse = true
is_pulse _ = false

-- the signal is high, or was never set
abbrev pub is_not_low : Act → Bool
is_not_low High = true
is_not_low Unset = true
is_not_low _ = false

-- the act of a vector at a signal
abbrev pub act_of_signal : List Act → ℕ → Act
act_of_signal acts signal = get_or acts signal Ignore

-- the signal pulses in some vector
abbrev pub pulses : List (List Act) → ℕ → Bool
pulses vectors signal = list_any (λ acts. is_pulse (act_of_signal acts signal)) vectors

-- the first signal of these acts that pulses somewhere and is not low here; the first act is of the signal with this number
abbrev pub first_not_low : (ℕ → Bool) → ℕ → List Act → Option ℕ
first_not_low pulsing signal [] = None
first_not_low pulsing signal (a ∷ acts) = if is_not_low a && pulsing signal then Some signal else first_not_low pulsing (suc signal) acts

-- the signal found in the vector with this number, or else what is found behind it
abbrev pub found_or : ℕ → Option ℕ → Option Unsteady → Option Unsteady
found_or vector (Some signal) behind = Some (record { vector = vector; signal = signal })
found_or vector None behind = behind

-- the first vector with such a signal; the first vector has this number
abbrev pub first_unsteady_from : (ℕ → Bool) → ℕ → List (List Act) → Option Unsteady
first_unsteady_from pulsing vector [] = None
first_unsteady_from pulsing vector (acts ∷ vectors) = found_or vector (first_not_low pulsing 0 acts) (first_unsteady_from pulsing (suc vector) vectors)

-- the first vector in which a signal that pulses in some vector is high or unset, and the first such signal in it
abbrev pub first_unsteady : Patterns → Option Unsteady
first_unsteady p = first_unsteady_from (pulses p.vectors) 0 p.vectors

-- each vector has so many acts
abbrev pub HaveLength : ℕ → List (List Act) → Type 0
HaveLength count vectors = All (λ acts. length acts ≡ count) vectors

-- a flag for each signal, set where it pulses in some vector
pub record IsPulseFlags (count : ℕ) (vectors : List (List Act)) (flags : List Bool) : Type 0 where
  pub len : length flags ≡ count
  pub each : (signal : ℕ) → get_or flags signal false ≡ pulses vectors signal
