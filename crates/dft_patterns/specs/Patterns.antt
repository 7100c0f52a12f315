-- Patterns: signals, and vectors of acts at them (IEEE 1450-1999, a part).
use Rattle.std.specs.Prelude.{◌≡◌, ◌≢◌, ℕ, ◌<◌, ◌^◌, Bool, true, false, List, [], length, take, drop, get_or, All, AllPairs}
use Rattle.std.specs.List.{AllZip, prefix_len}
use Rattle.dft_base.specs.declared.dir.Dir.{Dir}
use Rattle.dft_base.specs.declared.dir.Dir.TheVariants.{Input, Output}
use Rattle.dft_patterns.specs.declared.act.Act.{Act}
use Rattle.dft_patterns.specs.declared.act.Act.TheVariants.{Unset, High, Pulse, Ignore}
use Rattle.dft_patterns.specs.declared.notes.Note.{Note}
use Rattle.dft_patterns.specs.declared.signal.StilSignal.{StilSignal}
use Rattle.dft_patterns.specs.Acts.{IsActOf, IsTold}

pub record Patterns : Type 0 where
  -- in the order of their declarations
  pub signals : List StilSignal
  -- in the order of time, each with one act a signal
  pub vectors : List (List Act)
  -- in the order of their vectors
  pub notes : List Note

abbrev pub is_input : Dir → Bool
is_input Input = true
is_input Output = false

-- how many inputs stand before the first output
abbrev pub input_count : List StilSignal → ℕ
input_count signals = prefix_len (λ s. is_input s.dir) signals

-- the inputs before the first output
abbrev pub inputs : List StilSignal → List StilSignal
inputs signals = take (input_count signals) signals

-- the signals from the first output on
abbrev pub outputs : List StilSignal → List StilSignal
outputs signals = drop (input_count signals) signals

-- one act for each signal, of its direction
abbrev pub IsVector : List StilSignal → List Act → Type 0
IsVector signals acts = AllZip (λ s a. IsActOf s.dir a) signals acts

-- the same, and each signal is mentioned
abbrev pub IsFullVector : List StilSignal → List Act → Type 0
IsFullVector signals acts = AllZip (λ s a. IsActOf s.dir a × IsTold a) signals acts

-- the act of a vector at a signal, both by number
abbrev pub act_at : Patterns → ℕ → ℕ → Act
act_at p vector signal = get_or (get_or p.vectors vector []) signal Ignore

-- a signal that pulses in some vector is High or Unset in none
abbrev pub IsSteady : Patterns → Type 0
IsSteady p = (signal pulsed other : ℕ) → act_at p pulsed signal ≡ Pulse → (act_at p other signal ≢ High) × (act_at p other signal ≢ Unset)

-- patterns that can be replayed
pub record IsWellFormed (p : Patterns) : Type 0 where
  pub distinct : AllPairs (λ s t. s.name ≢ t.name) p.signals
  pub few : length p.vectors < 2 ^ 32
  pub fits : All (λ acts. IsVector p.signals acts) p.vectors
  pub steady : IsSteady p
