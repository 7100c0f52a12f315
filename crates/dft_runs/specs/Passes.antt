-- What is known of a vector from the values of the flip-flops before it: one notion for rounds of the abstract cycle and turns of runs.
use Rattle.std.specs.Prelude.{ℕ, Bool, List, [], ◌∷◌, ◌≡◌}
use Rattle.dft_base.specs.declared.tri.Tri.{Tri}
use Rattle.dft_base.specs.Tri.{known}
use Rattle.dft_behavior.specs.Logic.{Logic, IsRanked}
use Rattle.dft_behavior.specs.Settled.{IsTriSettled}
use Rattle.dft_behavior.specs.Runs.{Now, Vector, Turn, IsTurn, after_turn, AreTurns, AreLow}
use Rattle.dft_abstract.specs.Cycle.{strobe_sources, Halves, AreHalves, after_halves, Round, IsRound, after_round}
use Rattle.dft_abstract.specs.Laws.{bits, shown}

-- what stands after a vector: the values of the flip-flops, and the values that its strobe showed
pub record Pass : Type 0 where
  pub new : ℕ → Tri
  pub seen : ℕ → Tri

-- From these values a vector passes on what is known: a flip-flop that has one bit after the vector for any halves has it,
-- and a net that has one bit in every settled assignment of the strobe shows it.
pub record Passes (l : Logic) (x : Vector) (old : ℕ → Tri) (p : Pass) : Type 0 where
  pub after : (c : ℕ) (b : Bool) →
      ((h : Halves) → AreHalves l x old h → after_halves l x old h c ≡ known b) → p.new c ≡ known b
  pub strobe : (net : ℕ) (b : Bool) →
      ((values : ℕ → Tri) → IsTriSettled l (strobe_sources l x old values) values → values net ≡ known b) → p.seen net ≡ known b

-- vector by vector
abbrev pub ArePasses : Logic → (old : ℕ → Tri) → List Vector → List Pass → Type 0
ArePasses l old [] [] = Unit {0}
ArePasses l old [] (p ∷ ps) = ⊥
ArePasses l old (x ∷ xs) [] = ⊥
ArePasses l old (x ∷ xs) (p ∷ ps) = Passes l x old p × ArePasses l p.new xs ps

-- the values after the last of them
abbrev pub end_of : (old : ℕ → Tri) → List Pass → ℕ → Tri
end_of old [] = old
end_of old (p ∷ ps) = end_of p.new ps

-- ---- rounds of the abstract cycle

abbrev pub pass_of_round : Logic → Vector → (old : ℕ → Tri) → Round → Pass
pass_of_round l x old r = record { new = after_round l x old r; seen = r.strobe }

-- A round passes on what is known.
abbrev pub RoundPasses : Type 0
RoundPasses = (l : Logic) (x : Vector) (old : ℕ → Tri) (r : Round) → IsRound l x old r → Passes l x old (pass_of_round l x old r)

-- there is a round for each vector, from the values that the one before left
abbrev pub AreRounds : Logic → (old : ℕ → Tri) → List Vector → List Round → Type 0
AreRounds l old [] [] = Unit {0}
AreRounds l old [] (r ∷ rs) = ⊥
AreRounds l old (x ∷ xs) [] = ⊥
AreRounds l old (x ∷ xs) (r ∷ rs) = IsRound l x old r × AreRounds l (after_round l x old r) xs rs

-- the values after the last of them
abbrev pub after_rounds : Logic → (old : ℕ → Tri) → List Vector → List Round → ℕ → Tri
after_rounds l old [] rs = old
after_rounds l old (x ∷ xs) [] = old
after_rounds l old (x ∷ xs) (r ∷ rs) = after_rounds l (after_round l x old r) xs rs

abbrev pub passes_of_rounds : Logic → (old : ℕ → Tri) → List Vector → List Round → List Pass
passes_of_rounds l old [] rs = []
passes_of_rounds l old (x ∷ xs) [] = []
passes_of_rounds l old (x ∷ xs) (r ∷ rs) = pass_of_round l x old r ∷ passes_of_rounds l (after_round l x old r) xs rs

-- Rounds pass on what is known, vector by vector.
abbrev pub RoundsPass : Type 0
RoundsPass =
    (l : Logic) (old : ℕ → Tri) (xs : List Vector) (rs : List Round) → AreRounds l old xs rs →
    ArePasses l old xs (passes_of_rounds l old xs rs) × (end_of old (passes_of_rounds l old xs rs) ≡ after_rounds l old xs rs)

-- ---- turns of a run

abbrev pub pass_of_turn : Logic → Vector → Now → Turn → Pass
pass_of_turn l x now t = record { new = bits (after_turn l x now t).state; seen = λ net. known (shown t net) }

-- A turn of a run passes on what is known from the run's own bits.
abbrev pub TurnPasses : Type 0
TurnPasses =
    (l : Logic) (rank : ℕ → ℕ) (x : Vector) (now : Now) (t : Turn) → IsRanked l rank → AreLow now.state → IsTurn l x now t →
    Passes l x (bits now.state) (pass_of_turn l x now t)

-- what is there after these turns
abbrev pub after_turns : Logic → Now → List Vector → List Turn → Now
after_turns l now [] ts = now
after_turns l now (x ∷ xs) [] = now
after_turns l now (x ∷ xs) (t ∷ ts) = after_turns l (after_turn l x now t) xs ts

abbrev pub passes_of_turns : Logic → Now → List Vector → List Turn → List Pass
passes_of_turns l now [] ts = []
passes_of_turns l now (x ∷ xs) [] = []
passes_of_turns l now (x ∷ xs) (t ∷ ts) = pass_of_turn l x now t ∷ passes_of_turns l (after_turn l x now t) xs ts

-- Turns pass on what is known, vector by vector, and leave all clocks low.
abbrev pub TurnsPass : Type 0
TurnsPass =
    (l : Logic) (rank : ℕ → ℕ) (now : Now) (xs : List Vector) (ts : List Turn) → IsRanked l rank → AreLow now.state → AreTurns l now xs ts →
    ArePasses l (bits now.state) xs (passes_of_turns l now xs ts)
    × (end_of (bits now.state) (passes_of_turns l now xs ts) ≡ bits (after_turns l now xs ts).state)
    × AreLow (after_turns l now xs ts).state
