-- What a run is free to choose: its start, which clocks have their edges at once and in which order, and the free bits of every moment; every choice is that of a run.
use Rattle.std.specs.Prelude.{ℕ, true, ◌<◌, ◌≡◌, List, [], ◌∷◌}
use Rattle.dft_behavior.specs.Logic.{Logic, IsRanked}
use Rattle.dft_behavior.specs.Runs.{Moment, Now, Vector, Edge, Turn, IsOrder, AreLow, IsRun}

-- two moments have the same free bits
pub record SameFree (m k : Moment) : Type 0 where
  pub free : m.free ≡ k.free
  pub loose : m.loose ≡ k.loose

-- the same edges, of the same domains at once, in the same order, with the same free bits after each
abbrev pub SameEdges : List Edge → List Edge → Type 0
SameEdges [] [] = Unit {0}
SameEdges [] (e ∷ es) = ⊥
SameEdges (d ∷ ds) [] = ⊥
SameEdges (d ∷ ds) (e ∷ es) = (d.domains ≡ e.domains) × (SameFree d.moment e.moment × SameEdges ds es)

-- two turns differ by their settled bits alone
pub record SameChoice (t u : Turn) : Type 0 where
  pub strobe : SameFree t.strobe u.strobe
  pub rises : SameEdges t.rises u.rises
  pub falls : SameEdges t.falls u.falls

abbrev pub SameChoices : List Turn → List Turn → Type 0
SameChoices [] [] = Unit {0}
SameChoices [] (u ∷ us) = ⊥
SameChoices (t ∷ ts) [] = ⊥
SameChoices (t ∷ ts) (u ∷ us) = SameChoice t u × SameChoices ts us

-- there is a turn for each vector, in which each pulsed domain rises once and falls once
abbrev pub AreOrders : List Vector → List Turn → Type 0
AreOrders [] [] = Unit {0}
AreOrders [] (t ∷ ts) = ⊥
AreOrders (x ∷ xs) [] = ⊥
AreOrders (x ∷ xs) (t ∷ ts) = (IsOrder x.pulsed t.rises × IsOrder x.pulsed t.falls) × AreOrders xs ts

-- Every choice is that of a run.
abbrev pub ChoicesRun : Type 0
ChoicesRun =
    (l : Logic) (rank : ℕ → ℕ) (xs : List Vector) (start : Now) (choices : List Turn) →
    IsRanked l rank → AreLow start.state → AreOrders xs choices → (turns : List Turn) × (IsRun l xs start turns × SameChoices choices turns)

-- each vector pulses no clock at or past this number
abbrev pub PulseBelow : (bound : ℕ) → List Vector → Type 0
PulseBelow bound [] = Unit {0}
PulseBelow bound (x ∷ xs) = ((d : ℕ) → x.pulsed d ≡ true → d < bound) × PulseBelow bound xs

-- There is an order of the rises and of the falls for each vector.
abbrev pub OrdersExist : Type 0
OrdersExist = (bound : ℕ) (xs : List Vector) → PulseBelow bound xs → (choices : List Turn) × AreOrders xs choices

-- Over such vectors there is a run from every start with low clocks.
abbrev pub RunsExist : Type 0
RunsExist =
    (l : Logic) (rank : ℕ → ℕ) (bound : ℕ) (xs : List Vector) (start : Now) → IsRanked l rank → AreLow start.state → PulseBelow bound xs →
    (turns : List Turn) × IsRun l xs start turns
