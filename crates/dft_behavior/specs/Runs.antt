-- Events, and runs over vectors: clock edges in every order and any of them at once, and every free bit.
use Rattle.std.specs.Prelude.{ℕ, Bool, true, false, not, ◌&&◌, List, [], ◌∷◌, ◌++◌, ◌≡◌, ◌+◌, if◌then◌else◌, map}
use Rattle.dft_base.specs.declared.tri.Tri.{Tri}
use Rattle.dft_base.specs.Tri.{completed}
use Rattle.dft_cells.specs.FlipFlops.{taken_by, forced_by}
use Rattle.dft_behavior.specs.Logic.{Logic, Cell}
use Rattle.dft_behavior.specs.Settled.{Sources, bit_from, IsSettled}

-- ---- what a design keeps from moment to moment

pub record State : Type 0 where
  -- the bit that each input port was set to, by net; Unknown where nothing has set it yet
  pub ports : ℕ → Tri
  -- the bits of flip-flops, and those that lock-ups hold, by instance
  pub flops : ℕ → Bool
  -- whether the clock of a domain is high
  pub high : ℕ → Bool

-- a moment has its own free bits, and the settled bits
pub record Moment : Type 0 where
  pub free : ℕ → Bool
  pub loose : ℕ → ℕ → Bool
  pub seen : ℕ → Bool

pub record Now : Type 0 where
  pub state : State
  pub moment : Moment

-- a port that nothing has set yet is free
abbrev pub port_bits : State → Moment → ℕ → Bool
port_bits s m net = completed (s.ports net) (m.free net)

abbrev pub sources_of : Now → Sources
sources_of now = record {
  ports = port_bits now.state now.moment;
  high = now.state.high;
  flops = now.state.flops;
  free = now.moment.free;
  loose = now.moment.loose;
}

abbrev pub IsNow : Logic → Now → Type 0
IsNow l now = IsSettled l (sources_of now) now.moment.seen

-- ---- flip-flops

-- the bit that a flip-flop or lock-up takes at an edge of its clock, from its own bit and the settled bits just before
abbrev pub next_bit : Cell → (own : Bool) → Now → Bool
next_bit cell own now = forced_by cell.forces (port_bits now.state now.moment) (taken_by cell.takes own (bit_from (sources_of now) now.moment.seen))

-- ---- events

pub data Event : Type 0 where
  -- the input ports get their bits; Unknown at a port that nothing has set yet
  Set : (ports : ℕ → Tri) → Event
  -- the clocks of these domains rise at once, or fall
  Rise : (domains : ℕ → Bool) → Event
  Fall : (domains : ℕ → Bool) → Event

-- whether a cell takes its bit at a rise, or at a fall
abbrev pub takes : (rising falling : Bool) → Bool
takes rising falling = if rising then not falling else falling

-- the rise or the fall of some domains at once: all their cells of this edge take their next bits from the settled bits just before
abbrev pub edge : Logic → Now → (domains : ℕ → Bool) → (rising : Bool) → State
edge l now domains rising = record {
  ports = now.state.ports;
  flops = λ c. if domains (l.cell c).domain && takes rising (l.cell c).falling then next_bit (l.cell c) (now.state.flops c) now else now.state.flops c;
  high = λ e. if domains e then rising else now.state.high e;
}

abbrev pub set_ports : Now → (ℕ → Tri) → State
set_ports now ports = record { ports = ports; flops = now.state.flops; high = now.state.high }

-- the state after an event, before resets and sets act
abbrev pub after_event : Logic → Now → Event → State
after_event l now (Set ports) = set_ports now ports
after_event l now (Rise domains) = edge l now domains true
after_event l now (Fall domains) = edge l now domains false

-- at each moment a flip-flop whose reset is 0 becomes 0, and one whose set is 0 becomes 1
abbrev pub at_moment : Logic → Moment → State → State
at_moment l m s = record {
  ports = s.ports;
  flops = λ c. forced_by (l.cell c).forces (port_bits s m) (s.flops c);
  high = s.high;
}

-- an event with the moment after it
pub record Step : Type 0 where
  pub event : Event
  pub moment : Moment

abbrev pub next_now : Logic → Now → Step → Now
next_now l now step = record { state = at_moment l step.moment (after_event l now step.event); moment = step.moment }

abbrev pub after : Logic → Now → List Step → Now
after l now [] = now
after l now (step ∷ steps) = after l (next_now l now step) steps

-- each moment is settled
abbrev pub AreSteps : Logic → Now → List Step → Type 0
AreSteps l now [] = Unit {0}
AreSteps l now (step ∷ steps) = IsNow l (next_now l now step) × AreSteps l (next_now l now step) steps

-- ---- vectors and runs

-- what a vector does: the bits of the input ports, and the domains that pulse
pub record Vector : Type 0 where
  pub ports : ℕ → Tri
  pub pulsed : ℕ → Bool

-- an edge of the clocks of some domains at once, with the moment after it
pub record Edge : Type 0 where
  pub domains : ℕ → Bool
  pub moment : Moment

-- what a run chooses at a vector: the moment of the strobe, which clocks rise at once and in which order, how they fall, and the moments after that
pub record Turn : Type 0 where
  pub strobe : Moment
  pub rises : List Edge
  pub falls : List Edge

abbrev pub event_of : (rising : Bool) → (domains : ℕ → Bool) → Event
event_of true domains = Rise domains
event_of false domains = Fall domains

abbrev pub edge_step : (rising : Bool) → Edge → Step
edge_step rising e = record { event = event_of rising e.domains; moment = e.moment }

abbrev pub set_step : Vector → Turn → Step
set_step x t = record { event = Set x.ports; moment = t.strobe }

-- a vector is: its Set, the strobe, all the rises, all the falls
abbrev pub steps_of : Vector → Turn → List Step
steps_of x t = set_step x t ∷ (map (edge_step true) t.rises ++ map (edge_step false) t.falls)

-- how many of the edges are of a domain
abbrev pub times : (domain : ℕ) → List Edge → ℕ
times d [] = 0
times d (e ∷ es) = (if e.domains d then 1 else 0) + times d es

-- each edge is one of some domain
abbrev pub AreOfSome : List Edge → Type 0
AreOfSome [] = Unit {0}
AreOfSome (e ∷ es) = ((d : ℕ) × (e.domains d ≡ true)) × AreOfSome es

-- the pulsed domains in any order, and any of them at once: each has one edge and another none, and no edge is that of no domain
pub record IsOrder (pulsed : ℕ → Bool) (es : List Edge) : Type 0 where
  pub once : (d : ℕ) → times d es ≡ (if pulsed d then 1 else 0)
  pub some : AreOfSome es

pub record IsTurn (l : Logic) (x : Vector) (now : Now) (t : Turn) : Type 0 where
  pub steps : AreSteps l now (steps_of x t)
  pub rises : IsOrder x.pulsed t.rises
  pub falls : IsOrder x.pulsed t.falls

abbrev pub after_turn : Logic → Vector → Now → Turn → Now
after_turn l x now t = after l now (steps_of x t)

abbrev pub AreTurns : Logic → Now → List Vector → List Turn → Type 0
AreTurns l now [] [] = Unit {0}
AreTurns l now [] (t ∷ ts) = ⊥
AreTurns l now (x ∷ xs) [] = ⊥
AreTurns l now (x ∷ xs) (t ∷ ts) = IsTurn l x now t × AreTurns l (after_turn l x now t) xs ts

-- all clocks are low
abbrev pub AreLow : State → Type 0
AreLow s = (d : ℕ) → s.high d ≡ false

-- a run begins with any bits of the flip-flops and lock-ups and all clocks low
pub record IsRun (l : Logic) (xs : List Vector) (start : Now) (ts : List Turn) : Type 0 where
  pub low : AreLow start.state
  pub turns : AreTurns l start xs ts
