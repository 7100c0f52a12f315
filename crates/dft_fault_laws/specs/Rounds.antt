-- A round of one pass: what cells have after the rises and after the falls of a vector, by one assignment each.
use Rattle.std.specs.Prelude.{ℕ, Bool, true, ◌≡◌}
use Rattle.dft_base.specs.declared.tri.Tri.{Tri}
use Rattle.dft_behavior.specs.Logic.{Logic}
use Rattle.dft_behavior.specs.Runs.{Vector}
use Rattle.dft_abstract.specs.Cycle.{Pulse, changes, after_pulse, rise_of, falls_after, strobe_sources}
use Rattle.dft_behavior.specs.Settled.{IsTriSettled}
use Rattle.dft_takings.specs.Needs.{IsBefore}
use Rattle.dft_takings.specs.Shows.{Shown, is_still, IsShownOn, HasStillReads}

-- all nets
abbrev pub every : (net : ℕ) → Bool
every net = true

-- what nets show in a phase is no more than this: in each view in which this is still, so is what they show
abbrev pub IsBound : Logic → Pulse → (bound : ℕ → Shown) → Type 0
IsBound l p bound = (shown : ℕ → Shown) → IsShownOn l p every shown → (net d : ℕ) → is_still d (bound net) ≡ true → is_still d (shown net) ≡ true

-- The values are those before the edges of a phase, and each cell that takes a value in it reads nets that are still in the view of its domain.
pub record IsPass (l : Logic) (p : Pulse) (bound : ℕ → Shown) (values : ℕ → Tri) : Type 0 where
  pub before : IsBefore l p values
  pub bounds : IsBound l p bound
  pub still : (c : ℕ) → changes l p c ≡ true → HasStillReads l p every bound values c

-- what cells have after the edges of a phase, by its values before them
abbrev pub passed : Logic → Pulse → (values : ℕ → Tri) → (cell : ℕ) → Tri
passed l p values = after_pulse l p (λ d. values)

-- the falls of a vector, after rises of one pass
abbrev pub falls_of : Logic → Vector → (old values : ℕ → Tri) → Pulse
falls_of l x old values = falls_after l (rise_of l x old) (λ d. values)

-- The values are those of the strobe, and its rises are of one pass.
pub record IsRise (l : Logic) (x : Vector) (old : ℕ → Tri) (bound : ℕ → Shown) (values : ℕ → Tri) : Type 0 where
  pub strobe : IsTriSettled l (strobe_sources l x old values) values
  pub bounds : IsBound l (rise_of l x old) bound
  pub still : (c : ℕ) → changes l (rise_of l x old) c ≡ true → HasStillReads l (rise_of l x old) every bound values c
