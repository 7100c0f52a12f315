-- What each net and each instance of a design becomes in its circuit.
use Rattle.std.specs.Prelude.{false, ℕ, Bool, true, not, ◌≡◌, ◌<◌, List, [], ◌∷◌, Option, None, Some, option_map, map, length, slice_index_or, if◌then◌else◌}
use Rattle.std.specs.Option.{option_or}
use Rattle.dft_cells.specs.FlipFlops.{is_flip_flop, Takes, Forces, no_forces}
use Rattle.dft_cells.specs.declared.kind.Role.{Role}
use Rattle.dft_cells.specs.declared.kind.Role.TheVariants as role
use Rattle.dft_behavior.specs.RootTables.{AreRoots}
use Rattle.dft_netlist.specs.Netlist.{Netlist}
use Rattle.dft_behavior.specs.ClockRoots.{ClockRoot}
use Rattle.dft_netlist.specs.Drivers.{Source, Connection, source_of, is_input, kind_at, pins_of}
use Rattle.dft_cells.specs.declared.kind.Kind.{Kind}
use Rattle.dft_cells.specs.declared.kind.Kind.TheVariants as kind
use Rattle.dft_netlist.specs.Connections.{same_role}
use Rattle.dft_behavior.specs.Logic.{Ports, Cell, Meaning, Gate, Lockup, Free, logic_of, or_loose, domain_at, force_of, scan_of, modelled, locked, is_lockup, lockup_meaning, flop_meaning}
use Rattle.dft_logic.specs.declared.compiling.Traced.{Traced}
use Rattle.dft_logic.specs.declared.circuit.Operand.TheVariants.{Net}
use Rattle.dft_logic.specs.declared.circuit.Op.{Op}
use Rattle.dft_logic.specs.declared.circuit.FlipFlop.{FlipFlop}
use Rattle.dft_logic.specs.declared.circuit.Latch.{Latch}
use Rattle.dft_logic.specs.declared.wires.Wire.{Wire}
use Rattle.dft_behavior.specs.Traces.{root_of}
use Rattle.dft_logic.specs.Circuit.{Circuit, source_at, alone, flag_at, meaning, Fits, cell_of, latch_of, latch_at, logic_at}

-- the flagged nets are clocks, and every other input may be a reset or a set
abbrev pub ports_by : List Bool → Ports
ports_by flags = record { is_clock = flag_at flags; is_reset = λ net. not (flag_at flags net) }

-- ---- the pins of an instance

-- what a pin is for, and what it takes its value from
abbrev pub Wired : Type 0
Wired = Role × Source

abbrev pub wired_at : Wire → Wired
wired_at wire = (wire.role, source_at wire.source)

abbrev pub wired_by : (instance : ℕ) → Connection → Wired
wired_by i c = (c.role, source_of i c.pin c.to)

-- the sources of a gate's inputs
abbrev pub inputs_in : List Wired → List Source
inputs_in [] = []
inputs_in (w ∷ ws) = if is_input w.0 then w.1 ∷ inputs_in ws else inputs_in ws

-- the source of the first pin of a role
abbrev pub found_in : Role → List Wired → Option Source
found_in r [] = None
found_in r (w ∷ ws) = if same_role r w.0 then Some w.1 else found_in r ws

-- the roots are those of the design's nets
pub record IsTraced (t : Traced) : Type 0 where
  pub roots : AreRoots t.design.now t.roots.now

-- ---- what an instance with these pins is

-- the reset of a flip-flop, or the set of one that has no reset: no kind has both
abbrev pub forcing_in : Netlist → Ports → (clear preset : Option Source) → Option (Forces ℕ)
forcing_in n ports None None = Some no_forces
forcing_in n ports None (Some preset) = option_map (alone true) (force_of ports (root_of n preset))
forcing_in n ports (Some clear) preset = option_map (alone false) (force_of ports (root_of n clear))

abbrev pub takes_in : (instance : ℕ) → List Wired → Takes Source
takes_in i ws = record { input = or_loose i (found_in role.Din ws); scan = scan_of (found_in role.ScanEnable ws) (found_in role.ScanIn ws) }

-- its flip-flop, where it is modelled
abbrev pub modelled_in : Netlist → Ports → (instance : ℕ) → List Wired → Option Cell
modelled_in n ports i ws =
    modelled (domain_at n ports (found_in role.Clock ws)) (forcing_in n ports (found_in role.Reset ws) (found_in role.Preset ws)) (takes_in i ws)

-- its lock-up, as what stores a bit
abbrev pub lockup_in : Netlist → Ports → (instance : ℕ) → List Wired → Option Cell
lockup_in n ports i ws = locked (domain_at n ports (found_in role.Clock ws)) (or_loose i (found_in role.Din ws))

-- what an instance of this kind stores a bit in
abbrev pub stored_in : Netlist → Ports → (instance : ℕ) → Kind → List Wired → Option Cell
stored_in n ports i k ws = option_or (if is_flip_flop k then modelled_in n ports i ws else None) (if is_lockup k then lockup_in n ports i ws else None)

abbrev pub with_source : Source → Option ClockRoot → Option (ℕ × Source)
with_source source None = None
with_source source (Some clock) = Some (clock.port, source)

-- the domain and the input of its lock-up
abbrev pub latch_in : Netlist → Ports → (instance : ℕ) → List Wired → Option (ℕ × Source)
latch_in n ports i ws = with_source (or_loose i (found_in role.Din ws)) (domain_at n ports (found_in role.Clock ws))

-- what a net has that is joined to its output
abbrev pub meaning_in : Netlist → Ports → (instance : ℕ) → Kind → (inverted : Bool) → List Wired → Meaning
meaning_in n ports i kind.Opaque inverted ws = Free
meaning_in n ports i kind.Lockup inverted ws = lockup_meaning i (domain_at n ports (found_in role.Clock ws)) (or_loose i (found_in role.Din ws))
meaning_in n ports i (kind.Flop flop) inverted ws = flop_meaning i inverted (modelled_in n ports i ws)
meaning_in n ports i (kind.Gate gate) inverted ws = Gate gate (inputs_in ws)

-- ---- a net and an instance

abbrev pub flop_in : List FlipFlop → ℕ → FlipFlop
flop_in flops i = slice_index_or flops i (record { domain = record { 0 = 0 }; falling = false; input = Net (record { 0 = 0 }); scan = None; force = None })

abbrev pub latch_kept : Kind → Option (ℕ × Source) → Option (ℕ × Source)
latch_kept kind.Lockup latch = latch
latch_kept other latch = None

-- the lock-up of the instance with this number
abbrev pub kept_latch : Netlist → Ports → (instance : ℕ) → Option (ℕ × Source)
kept_latch n ports i = latch_kept (kind_at n i) (latch_in n ports i (map (wired_by i) (pins_of n i)))

-- what a net takes its value from: it means what the net does, a gate has as many inputs as it takes, and a lock-up is that of its instance
pub record IsOpOf (n : Netlist) (ports : Ports) (net : ℕ) (op : Op) : Type 0 where
  pub means : meaning op ≡ (logic_of n ports).net net
  pub fits : Fits op
  pub latch : (c e : ℕ) (high : Bool) (source : Source) → meaning op ≡ Lockup c e high source → (c < length n.instances) × (kept_latch n ports c ≡ Some (e, source))

abbrev pub IsFlopOf : Netlist → Ports → (instance : ℕ) → FlipFlop → Type 0
IsFlopOf n ports i flop = cell_of flop ≡ (logic_of n ports).cell i

abbrev pub IsLatchOf : Netlist → Ports → (instance : ℕ) → Option Latch → Type 0
IsLatchOf n ports i latch = latch_of latch ≡ kept_latch n ports i

-- what the first instances store their bits in, and their lock-ups
pub record AreFlops (n : Netlist) (ports : Ports) (count : ℕ) (flops : List FlipFlop) : Type 0 where
  pub size : length flops ≡ count
  pub each : (i : ℕ) → i < count → IsFlopOf n ports i (flop_in flops i)

pub record AreLatches (n : Netlist) (ports : Ports) (count : ℕ) (latches : List (Option Latch)) : Type 0 where
  pub size : length latches ≡ count
  pub each : (i : ℕ) → i < count → IsLatchOf n ports i (slice_index_or latches i None)

-- ---- a design's circuit

pub record IsCircuitOf (n : Netlist) (ports : Ports) (x : Circuit) : Type 0 where
  -- it means what the design does
  pub compiled : logic_of n ports ≡ logic_at x
  -- its lock-ups' domains are clocks
  pub clocked : (c e : ℕ) (high : Bool) (source : Source) → latch_at x.latches c ≡ Some (e, source) → ports.is_clock e ≡ true
  pub nets : length x.ops ≡ length n.nets
  pub instances : length x.flops ≡ length n.instances
