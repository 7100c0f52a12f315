-- The abstract machine of replay: what it keeps, and what each call does to it.
use Rattle.std.specs.Prelude.{ℕ, Bool, true, false, not, ◌≡◌, ◌<◌, ◌==◌, ◌&&◌, ◌||◌, List, [], ◌∷◌, Option, None, Some, slice_get, if◌then◌else◌}
use Rattle.dft_base.specs.declared.tri.Tri.{Tri}
use Rattle.dft_base.specs.declared.tri.Tri.TheVariants.{Zero, Unknown}
use Rattle.dft_cells.specs.FlipFlops.{Forces, tri_forced_by}
use Rattle.dft_netlist.specs.declared.ids.NetId.{NetId}
use Rattle.dft_netlist.specs.Netlist.{Netlist}
use Rattle.dft_behavior.specs.Logic.{Ports, Logic, logic_of}
use Rattle.dft_behavior.specs.Settled.{TriSources, value_from, IsTriSettled}
use Rattle.dft_abstract.specs.Cycle.{Pulse, IsLeast, after_pulse, falls_after, Half, Halves}
pub use Rattle.dft_logic.specs.Values.{value_at}
use Rattle.dft_logic.specs.Circuit.{IsOneForce}

pub record Machine : Type 0 where
  pub netlist : Netlist
  -- the input ports' bits that are clocks
  pub clocks : List NetId
  -- the value of each input port's bit, by its net
  pub inputs : List Tri
  -- the value of each flip-flop, by its instance
  pub cells : List Tri
  -- the value of each net at the last strobe
  pub shown : List Tri

-- whether a net is one of the clocks
abbrev pub is_one_of : List NetId → ℕ → Bool
is_one_of [] net = false
is_one_of (clock ∷ clocks) net = (clock.0 == net) || is_one_of clocks net

-- each of these is one of so many nets
abbrev pub AreNets : (count : ℕ) → List NetId → Type 0
AreNets count nets = (place : ℕ) (net : NetId) → slice_get nets place ≡ Some net → net.0 < count

-- every input that is no clock may be a reset or a set
abbrev pub ports_of : List NetId → Ports
ports_of clocks = record { is_clock = is_one_of clocks; is_reset = λ net. not (is_one_of clocks net) }

-- what the nets and flip-flops of the machine's design are
unfoldable pub logic : Machine → Logic
logic m = logic_of m.netlist (ports_of m.clocks)

-- ---- the calls

-- at the start nothing is known
pub record IsStart (n : Netlist) (named : List NetId) (m : Machine) : Type 0 where
  pub netlist : m.netlist ≡ n
  pub clocks : m.clocks ≡ named
  pub inputs : (net : ℕ) → value_at m.inputs net ≡ Unknown
  pub cells : (cell : ℕ) → value_at m.cells cell ≡ Unknown
  pub shown : (net : ℕ) → value_at m.shown net ≡ Unknown

-- a reset or a set, where it is at this net
abbrev pub only_at : (net : ℕ) → Option ℕ → Option ℕ
only_at net None = None
only_at net (Some port) = if port == net then Some port else None

-- what an input that gets a value leaves in a flip-flop: it acts at once where it is the flip-flop's reset or set
abbrev pub acted : Forces ℕ → (net : ℕ) → (value : Tri) → Tri → Tri
acted forces net value bit = tri_forced_by (record { clear = only_at net forces.clear; preset = only_at net forces.preset }) (λ port. value) bit

-- one input has the value, and it acted on the flip-flops
pub record IsSet (l : Logic) (m : Machine) (net : ℕ) (value : Tri) (after : Machine) : Type 0 where
  pub netlist : after.netlist ≡ m.netlist
  pub clocks : after.clocks ≡ m.clocks
  pub input : value_at after.inputs net ≡ value
  pub others : (other : ℕ) → (other ≡ net → ⊥) → value_at after.inputs other ≡ value_at m.inputs other
  -- it has not both
  pub one : (c : ℕ) → IsOneForce (l.cell c).forces
  pub cells : (c : ℕ) → value_at after.cells c ≡ acted (l.cell c).forces net value (value_at m.cells c)
  pub shown : after.shown ≡ m.shown

-- for a strobe clocks are 0, inputs and flip-flops have their values, high lock-ups hold and others are wires
abbrev pub at_strobe : Machine → (values : ℕ → Tri) → TriSources
at_strobe m values = record { ports = value_at m.inputs; clocks = λ e. Zero; flops = value_at m.cells; lockups = λ c e high source. if high then value_at m.cells c else value_from values source }

-- the nets show their settled values
pub record IsStrobed (l : Logic) (m after : Machine) : Type 0 where
  pub netlist : after.netlist ≡ m.netlist
  pub clocks : after.clocks ≡ m.clocks
  pub inputs : after.inputs ≡ m.inputs
  pub cells : after.cells ≡ m.cells
  pub settled : IsTriSettled l (at_strobe m (value_at after.shown)) (value_at after.shown)

-- whether the clock of a domain pulses: an entry for it is 1, where the entries are in the order of the clocks
abbrev pub pulses : (clocks : List NetId) → (pulsed : List Bool) → ℕ → Bool
pulses [] pulsed e = false
pulses (clock ∷ clocks) [] e = false
pulses (clock ∷ clocks) (up ∷ pulsed) e = (up && (clock.0 == e)) || pulses clocks pulsed e

-- a phase of a pulse from the machine's values, and its rises
abbrev pub phase_from : Machine → (rising : Bool) → (pulsed : List Bool) → Pulse
phase_from m rising pulsed = record { rising = rising; ports = value_at m.inputs; pulsed = pulses m.clocks pulsed; old = value_at m.cells }

abbrev pub pulse_from : Machine → (pulsed : List Bool) → Pulse
pulse_from m pulsed = phase_from m true pulsed

-- in the phase the cells that take a value have their next values at the least map
pub record IsPhase (l : Logic) (m : Machine) (rising : Bool) (pulsed : List Bool) (after : Machine) : Type 0 where
  pub netlist : after.netlist ≡ m.netlist
  pub clocks : after.clocks ≡ m.clocks
  pub inputs : after.inputs ≡ m.inputs
  pub shown : after.shown ≡ m.shown
  pub half : Half
  pub least : IsLeast l (phase_from m rising pulsed) half.poss half.view
  pub cells : (c : ℕ) → value_at after.cells c ≡ after_pulse l (phase_from m rising pulsed) half.view c

-- in each half the cells that take a value have their next values at the least map
pub record IsPulsed (l : Logic) (m : Machine) (pulsed : List Bool) (after : Machine) : Type 0 where
  pub netlist : after.netlist ≡ m.netlist
  pub clocks : after.clocks ≡ m.clocks
  pub inputs : after.inputs ≡ m.inputs
  pub shown : after.shown ≡ m.shown
  pub halves : Halves
  pub rise : IsLeast l (pulse_from m pulsed) halves.rise.poss halves.rise.view
  pub fall : IsLeast l (falls_after l (pulse_from m pulsed) halves.rise.view) halves.fall.poss halves.fall.view
  pub cells : (c : ℕ) → value_at after.cells c ≡ after_pulse l (falls_after l (pulse_from m pulsed) halves.rise.view) halves.fall.view c
