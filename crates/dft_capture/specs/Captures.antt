-- What the scanned flip-flops of a design capture where one clock pulses once, from any values before it.
use Rattle.std.specs.Prelude.{ℕ, Bool, true, false, List, Option, None, Some, if◌then◌else◌}
use Rattle.dft_base.specs.declared.tri.Tri.{Tri}
use Rattle.dft_base.specs.declared.tri.Tri.TheVariants.{Zero, Unknown}
use Rattle.dft_cells.specs.declared.kind.Role.TheVariants as role
use Rattle.dft_cells.specs.FlipFlops.{tri_taken_by, tri_forced_by}
use Rattle.dft_netlist.specs.Netlist.{Netlist}
use Rattle.dft_netlist.specs.Drivers.{Source, Driver, Connection, pins_of, driver}
use Rattle.dft_netlist.specs.Drivers as drivers
use Rattle.dft_netlist.specs.Connections.{pin_of}
use Rattle.dft_behavior.specs.Logic.{Logic, Meaning, Input, Clock, Gate, Joined, Flop, Free, takes_of, forces_of, no_cell}
use Rattle.dft_behavior.specs.Settled.{TriSources, value_from, IsTriSettled}

-- ---- the design between pulses

-- which nets are clocks; which flip-flops hold values, and which of these take their next ones at the rise of the pulse and at its fall
pub record Moving : Type 0 where
  pub is_clock : ℕ → Bool
  pub holds : ℕ → Bool
  pub rises : ℕ → Bool
  pub falls : ℕ → Bool

-- what a net means: a flip-flop that holds no value is free, and so is a lock-up
abbrev pub meaning_in : Moving → (net : ℕ) → Driver → Meaning
meaning_in m net drivers.Input = if m.is_clock net then Clock else Input
meaning_in m net (drivers.Gate kind inputs) = Gate kind inputs
meaning_in m net (drivers.Joined source) = Joined source
meaning_in m net (drivers.Flop i inverted) = if m.holds i then Flop i inverted else Free
meaning_in m net (drivers.Lockup i) = Free
meaning_in m net drivers.Free = Free

abbrev pub capture_logic : Netlist → Moving → Logic
capture_logic n m = record { net = λ net. meaning_in m net (driver n net); cell = λ i. no_cell i }

-- ports and flip-flops have these values, clocks are 0, and all that is free is Unknown
abbrev pub sources_at : (ports state : ℕ → Tri) → TriSources
sources_at ports state = record { ports = ports; clocks = λ net. Zero; flops = state; lockups = λ c e high source. Unknown }

-- the three-valued settled values of the nets
abbrev pub IsSettledFrom : Netlist → Moving → (ports state values : ℕ → Tri) → Type 0
IsSettledFrom n m ports state values = IsTriSettled (capture_logic n m) (sources_at ports state) values

-- ---- next values

-- The next value of a flip-flop with these pins: what it takes, and then what its reset and its set leave. No cell of today takes anything of
-- its own value.
abbrev pub next_at : (instance : ℕ) → List Connection → (values : ℕ → Tri) → Tri
next_at i pins values = tri_forced_by (forces_of i pins) (value_from values) (tri_taken_by (takes_of i pins) Unknown (value_from values))

-- the next value of a flip-flop by the values at its pins, whatever these trace to
abbrev pub next_by_pins : Netlist → (values : ℕ → Tri) → (cell : ℕ) → Tri
next_by_pins n values i = next_at i (pins_of n i) values

-- ---- one pulse

-- what moves takes its next value from these settled values, and all others stay
abbrev pub after_moves : Netlist → (moves : ℕ → Bool) → (values state : ℕ → Tri) → (cell : ℕ) → Tri
after_moves n moves values state c = if moves c then next_by_pins n values c else state c

-- the settled values before the pulse rises, and before it falls
pub record Settled : Type 0 where
  pub first : ℕ → Tri
  pub second : ℕ → Tri

-- They are settled from the values before the pulse, and from those in which the rising flip-flops have moved. Clocks are 0 in both.
pub record AreSettled (n : Netlist) (m : Moving) (ports state : ℕ → Tri) (s : Settled) : Type 0 where
  pub first : IsSettledFrom n m ports state s.first
  pub second : IsSettledFrom n m ports (after_moves n m.rises s.first state) s.second

-- the flip-flops' values after the pulse: the rising ones have moved, and then the falling ones
abbrev pub captured : Netlist → Moving → (state : ℕ → Tri) → Settled → (cell : ℕ) → Tri
captured n m state s = after_moves n m.falls s.second (after_moves n m.rises s.first state)
