-- Worked examples: clocks that rise at one instant, and clocks that fall at one.
use Rattle.std.specs.Prelude.{ℕ, Bool, true, false, ◌≡◌, ◌==◌, ◌||◌, List, [], ◌∷◌, get_or}
use Rattle.dft_base.specs.declared.tri.Tri.TheVariants.{Unknown}
use Rattle.dft_cells.specs.FlipFlops.{no_forces}
use Rattle.dft_netlist.specs.Drivers.{Net}
use Rattle.dft_behavior.specs.Logic.{Logic, Meaning, Clock, Flop, Lockup, Free, Cell, plain, lockup_cell, no_cell}
use Rattle.dft_behavior.specs.Runs.{State, Moment, Now, Vector, Edge, Turn, IsOrder, IsTurn, after_turn, AreLow}

-- ---- clocks, and edges of some at once

abbrev pub none : (clock : ℕ) → Bool
none clock = false

abbrev pub first : (clock : ℕ) → Bool
first clock = clock == 0

abbrev pub both : (clock : ℕ) → Bool
both clock = (clock == 0) || (clock == 1)

abbrev pub third : (clock : ℕ) → Bool
third clock = clock == 2

abbrev pub three : (clock : ℕ) → Bool
three clock = both clock || third clock

abbrev pub edge_of : (clocks : ℕ → Bool) → Moment → Edge
edge_of clocks m = record { domains = clocks; moment = m }

-- All clocks that pulse may have their edges at one instant.
abbrev pub AllAtOnce : Type 0
AllAtOnce = (pulsed : ℕ → Bool) (clock : ℕ) (m : Moment) → pulsed clock ≡ true → IsOrder pulsed (edge_of pulsed m ∷ [])

-- No edge is that of no clock or of one that does not pulse, and no clock has two.
pub record NoOrders : Type 0 where
  pub empty : (m k : Moment) → IsOrder both (edge_of both m ∷ edge_of none k ∷ []) → ⊥
  pub still : (m : Moment) → IsOrder first (edge_of both m ∷ []) → ⊥
  pub twice : (m k : Moment) → IsOrder both (edge_of both m ∷ edge_of first k ∷ []) → ⊥

-- ---- designs

-- a flip-flop that takes a net at the rise of a clock, or at its fall
abbrev pub taking : (clock : ℕ) → (falling : Bool) → (net : ℕ) → Cell
taking clock falling net = record { domain = clock; falling = falling; takes = plain (Net net); forces = no_forces }

abbrev pub design : List Meaning → List Cell → Logic
design nets cells = record { net = λ net. get_or nets net Free; cell = λ c. get_or cells c (no_cell c) }

-- a vector that pulses some clocks
abbrev pub pulsing : (clocks : ℕ → Bool) → Vector
pulsing clocks = record { ports = λ net. Unknown; pulsed = clocks }

abbrev pub end_of : Logic → (clocks : ℕ → Bool) → Now → Turn → State
end_of l clocks now t = (after_turn l (pulsing clocks) now t).state

-- ---- two clocks

-- both clocks rise at one instant, and fall at one
abbrev pub at_once : (strobe risen fallen : Moment) → Turn
at_once strobe risen fallen = record { strobe = strobe; rises = edge_of both risen ∷ []; falls = edge_of both fallen ∷ [] }

-- two flip-flops on two clocks, each of which takes the other's bit
abbrev pub pair : (falling : Bool) → Logic
pair falling = design (Clock ∷ Clock ∷ Flop 0 false ∷ Flop 1 false ∷ []) (taking 0 falling 3 ∷ taking 1 falling 2 ∷ [])

-- They exchange their bits, at the rises or at the falls.
abbrev pub Exchange : Type 0
Exchange =
    (falling : Bool) (now : Now) (s r f : Moment) → IsTurn (pair falling) (pulsing both) now (at_once s r f) →
    ((end_of (pair falling) both now (at_once s r f)).flops 0 ≡ now.state.flops 1)
    × ((end_of (pair falling) both now (at_once s r f)).flops 1 ≡ now.state.flops 0)

-- the same with a lock-up on the first clock from the first to the second; it is a wire up to the edge
abbrev pub locked_pair : (falling : Bool) → Logic
locked_pair falling =
    design (Clock ∷ Clock ∷ Flop 0 false ∷ Flop 1 false ∷ Lockup 2 0 falling (Net 2) ∷ []) (taking 0 falling 3 ∷ taking 1 falling 4 ∷ lockup_cell 0 falling (Net 2) ∷ [])

-- They exchange their bits too, and the lock-up holds what the first had.
abbrev pub LockedExchange : Type 0
LockedExchange =
    (falling : Bool) (now : Now) (s r f : Moment) → AreLow now.state → IsTurn (locked_pair falling) (pulsing both) now (at_once s r f) →
    ((end_of (locked_pair falling) both now (at_once s r f)).flops 0 ≡ now.state.flops 1)
    × ((end_of (locked_pair falling) both now (at_once s r f)).flops 1 ≡ now.state.flops 0)
    × ((end_of (locked_pair falling) both now (at_once s r f)).flops 2 ≡ now.state.flops 0)

-- ---- three clocks

-- the first two rise at one instant and then the third, and so they fall
abbrev pub two_then_one : (strobe risen all_risen fallen all_fallen : Moment) → Turn
two_then_one s r a f b = record { strobe = s; rises = edge_of both r ∷ edge_of third a ∷ []; falls = edge_of both f ∷ edge_of third b ∷ [] }

-- a ring of three flip-flops on three clocks
abbrev pub ring : (falling : Bool) → Logic
ring falling = design (Clock ∷ Clock ∷ Clock ∷ Flop 0 false ∷ Flop 1 false ∷ Flop 2 false ∷ []) (taking 0 falling 5 ∷ taking 1 falling 3 ∷ taking 2 falling 4 ∷ [])

-- This is an order. The first two take the bits from before; the third takes what the second has then, which was the first one's.
pub record TwoThenOne : Type 0 where
  pub order : (m k : Moment) → IsOrder three (edge_of both m ∷ edge_of third k ∷ [])
  pub bits : (falling : Bool) (now : Now) (s r a f b : Moment) → IsTurn (ring falling) (pulsing three) now (two_then_one s r a f b) →
      ((end_of (ring falling) three now (two_then_one s r a f b)).flops 0 ≡ now.state.flops 2)
      × ((end_of (ring falling) three now (two_then_one s r a f b)).flops 1 ≡ now.state.flops 0)
      × ((end_of (ring falling) three now (two_then_one s r a f b)).flops 2 ≡ now.state.flops 0)
