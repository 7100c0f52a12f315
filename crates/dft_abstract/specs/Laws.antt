-- What the abstract cycle says of runs.
use Rattle.std.specs.Prelude.{ℕ, Bool, true, false, ◌≡◌, List, ◌∷◌, None, map, if◌then◌else◌}
use Rattle.dft_base.specs.declared.tri.Tri.{Tri}
use Rattle.dft_base.specs.declared.tri.Tri.TheVariants.{Unknown}
use Rattle.dft_base.specs.Tri.{known, Above, AboveTri, join}
use Rattle.dft_netlist.specs.Drivers.{Source}
use Rattle.dft_cells.specs.FlipFlops.{no_forces, tri_taken_by, tri_forced_by}
use Rattle.dft_behavior.specs.Logic.{Logic, Lockup, IsRanked}
use Rattle.dft_behavior.specs.Settled.{IsTriSettled, value_from}
use Rattle.dft_behavior.specs.Runs.{State, Now, IsNow, after, AreSteps, Edge, edge_step, set_step, IsOrder, Vector, Turn, IsTurn, after_turn, AreLow}
use Rattle.dft_abstract.specs.Cycle.{Pulse, changes, level_before, level_after, AreViews, next_value, IsClosed, IsLeast, after_pulse, rise_of, strobe_sources, Half, Halves, AreHalves, AreClosed, after_halves, Round, IsRound, after_round}

-- what holds between vectors: each value stands above its cell's bit, and all clocks are low
pub record Stands (old : ℕ → Tri) (s : State) : Type 0 where
  pub above : (c : ℕ) → Above (old c) (s.flops c)
  pub low : AreLow s

-- the same where the clocks have these levels
pub record StandsAt (level : ℕ → Bool) (old : ℕ → Tri) (s : State) : Type 0 where
  pub above : (c : ℕ) → Above (old c) (s.flops c)
  pub levels : (e : ℕ) → s.high e ≡ level e

-- the old values are those that resets and sets leave
abbrev pub IsForced : Logic → Pulse → Type 0
IsForced l p = (c : ℕ) → AboveTri (p.old c) (tri_forced_by (l.cell c).forces p.ports (p.old c))

-- After a phase, whatever the order of its edges and the free bits, the values of any closed map stand above the bits.
abbrev pub PhaseIsAbove : Type 0
PhaseIsAbove =
    (l : Logic) (rank : ℕ → ℕ) (p : Pulse) (poss : ℕ → Tri) (view : ℕ → ℕ → Tri) (now : Now) (es : List Edge) → IsRanked l rank → IsClosed l p poss view → IsForced l p →
    ((k : ℕ) → now.state.ports k ≡ p.ports k) → StandsAt (level_before p) p.old now.state → IsNow l now → IsOrder p.pulsed es → AreSteps l now (map (edge_step p.rising) es) →
    StandsAt (level_after p) (after_pulse l p view) (after l now (map (edge_step p.rising) es)).state

-- the bits that a run shows at the strobe of a turn
abbrev pub shown : Turn → ℕ → Bool
shown t = t.strobe.seen

-- At the strobe of every turn each net's value stands above its bit.
abbrev pub StrobeIsAbove : Type 0
StrobeIsAbove =
    (l : Logic) (rank : ℕ → ℕ) (x : Vector) (old values : ℕ → Tri) (now : Now) (t : Turn) → IsRanked l rank → Stands old now.state → IsTurn l x now t →
    IsTriSettled l (strobe_sources l x old values) values → (net : ℕ) → Above (values net) (shown t net)

-- After every turn, whatever the order of its edges and the free bits, the values of any closed halves stand above the bits.
abbrev pub TurnIsAbove : Type 0
TurnIsAbove =
    (l : Logic) (rank : ℕ → ℕ) (x : Vector) (old : ℕ → Tri) (now : Now) (t : Turn) (h : Halves) → IsRanked l rank → Stands old now.state → IsTurn l x now t →
    AreClosed l x old h → Stands (after_halves l x old h) (after_turn l x now t).state

-- The map that is Unknown everywhere is closed, with its views; and a vector has strobe values.
abbrev pub ClosedExists : Type 0
ClosedExists = (l : Logic) (rank : ℕ → ℕ) (p : Pulse) → IsRanked l rank → (view : ℕ → ℕ → Tri) × IsClosed l p (λ c. Unknown) view

abbrev pub StrobeExists : Type 0
StrobeExists = (l : Logic) (rank : ℕ → ℕ) (x : Vector) (old : ℕ → Tri) → IsRanked l rank → (values : ℕ → Tri) × IsTriSettled l (strobe_sources l x old values) values

-- A map that is below all closed maps stays below them where the next value in its views of a cell that takes one is joined to it.
abbrev pub StepIsBelow : Type 0
StepIsBelow =
    (l : Logic) (rank : ℕ → ℕ) (p : Pulse) (poss other : ℕ → Tri) (view its : ℕ → ℕ → Tri) → IsRanked l rank → AreViews l p poss view → IsClosed l p other its →
    ((c : ℕ) → AboveTri (other c) (poss c)) → (c : ℕ) → changes l p c ≡ true → AboveTri (other c) (join (poss c) (next_value l p view c))

-- A phase in which no cell takes a value leaves all as it was, and its least map is that of the old values.
abbrev pub NoneChanges : Type 0
NoneChanges =
    (l : Logic) (rank : ℕ → ℕ) (p : Pulse) → IsRanked l rank → ((c : ℕ) → changes l p c ≡ false) →
    (view : ℕ → ℕ → Tri) × (IsLeast l p p.old view × ((c : ℕ) → after_pulse l p view c ≡ p.old c))

-- The values of a vector are determined.
abbrev pub RoundIsOne : Type 0
RoundIsOne =
    (l : Logic) (rank : ℕ → ℕ) (x : Vector) (old : ℕ → Tri) (r q : Round) → IsRanked l rank → IsRound l x old r → IsRound l x old q →
    ((net : ℕ) → r.strobe net ≡ q.strobe net) × ((c : ℕ) → after_round l x old r c ≡ after_round l x old q c)

-- ---- where one domain pulses

abbrev pub HasNoLockup : Logic → Type 0
HasNoLockup l = (net c e : ℕ) (high : Bool) (source : Source) → l.net net ≡ Lockup c e high source → ⊥

-- the next value of a flip-flop from its own value and the values of the strobe
abbrev pub next_from : Logic → Vector → (values : ℕ → Tri) → (own : Tri) → (cell : ℕ) → Tri
next_from l x values own c = tri_forced_by (l.cell c).forces x.ports (tri_taken_by (l.cell c).takes own (value_from values))

-- Without lock-ups, where one domain pulses at most, a vector's round has these strobe values, and its rising flip-flops take their next values
-- from them.
abbrev pub OneDomain : Type 0
OneDomain =
    (l : Logic) (rank : ℕ → ℕ) (x : Vector) (d : ℕ) (old values : ℕ → Tri) → IsRanked l rank → HasNoLockup l → ((e : ℕ) → x.pulsed e ≡ true → e ≡ d) →
    IsTriSettled l (strobe_sources l x old values) values →
    (r : Round) × ((r.strobe ≡ values) × IsRound l x old r × ((c : ℕ) → (l.cell c).falling ≡ false → after_round l x old r c ≡ (if x.pulsed (l.cell c).domain then next_from l x values ((rise_of l x old).old c) c else (rise_of l x old).old c)))

-- ---- from the abstract cycle to runs: what it knows from a run's own bits, the run has

abbrev pub bits : State → ℕ → Tri
bits s c = known (s.flops c)

-- a cell that all halves give a known bit has it after every turn
abbrev pub KnownAfterTurn : Type 0
KnownAfterTurn =
    (l : Logic) (rank : ℕ → ℕ) (x : Vector) (now : Now) (t : Turn) → IsRanked l rank → AreLow now.state → IsTurn l x now t → (c : ℕ) (b : Bool) →
    ((h : Halves) → AreHalves l x (bits now.state) h → after_halves l x (bits now.state) h c ≡ known b) →
    (after_turn l x now t).state.flops c ≡ b

-- the present after the rises of a turn
abbrev pub after_rises : Logic → Vector → Now → Turn → Now
after_rises l x now t = after l now (set_step x t ∷ map (edge_step true) t.rises)

-- the falls of a vector from these values
abbrev pub falls_from : Vector → (old : ℕ → Tri) → Pulse
falls_from x old = record { rising = false; ports = x.ports; pulsed = x.pulsed; old = old }

-- these values are the state's own bits in each cell without reset or set
abbrev pub AreOwn : Logic → State → (old : ℕ → Tri) → Type 0
AreOwn l s old = (c : ℕ) → (l.cell c).forces ≡ no_forces → old c ≡ bits s c

-- a cell that all falls give a known bit, from a run's own bits after the rises, has it after every turn
abbrev pub KnownAfterFalls : Type 0
KnownAfterFalls =
    (l : Logic) (rank : ℕ → ℕ) (x : Vector) (now : Now) (t : Turn) → IsRanked l rank → AreLow now.state → IsTurn l x now t → (c : ℕ) (b : Bool) →
    ((old : ℕ → Tri) (h : Half) → AreOwn l (after_rises l x now t).state old → AreViews l (falls_from x old) h.poss h.view → after_pulse l (falls_from x old) h.view c ≡ known b) →
    (after_turn l x now t).state.flops c ≡ b

-- a net that the strobe gives a known bit shows it
abbrev pub KnownAtStrobe : Type 0
KnownAtStrobe =
    (l : Logic) (rank : ℕ → ℕ) (x : Vector) (now : Now) (t : Turn) → IsRanked l rank → AreLow now.state → IsTurn l x now t → (net : ℕ) (b : Bool) →
    ((values : ℕ → Tri) → IsTriSettled l (strobe_sources l x (bits now.state) values) values → values net ≡ known b) → shown t net ≡ b

-- all clocks are low after every turn
abbrev pub LowAfterTurn : Type 0
LowAfterTurn = (l : Logic) (rank : ℕ → ℕ) (x : Vector) (now : Now) (t : Turn) → IsRanked l rank → AreLow now.state → IsTurn l x now t → AreLow (after_turn l x now t).state
