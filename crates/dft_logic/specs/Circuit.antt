-- A design made ready for settling: what each net takes its value from, and the flip-flop or lock-up of each instance.
use Rattle.std.specs.Prelude.{ℕ, Bool, true, false, ◌≡◌, ◌<◌, ◌⊎◌, List, [], ◌∷◌, map, length, Option, None, Some, slice_index_or}
use Rattle.std.specs.List.{AllByRecursion}
use Rattle.dft_base.specs.declared.tri.Tri.{Tri}
use Rattle.dft_base.specs.declared.tri.Tri.TheVariants.{Unknown}
use Rattle.dft_cells.specs.FlipFlops.{Scan, Takes, Forces, no_forces, tri_taken_by, tri_forced_by}
use Rattle.dft_cells.specs.WellFormed.{TakesInputs}
use Rattle.dft_netlist.specs.declared.ids.NetId.{NetId}
use Rattle.dft_netlist.specs.Drivers.{Source}
use Rattle.dft_netlist.specs.Drivers as drivers
use Rattle.dft_behavior.specs.Logic.{Logic, Meaning, Cell, reads, lockup_cell, no_cell}
use Rattle.dft_behavior.specs.Logic as meanings
use Rattle.dft_behavior.specs.Settled.{TriSources, value_from}
use Rattle.dft_netlist.specs.Orders.{Has, numbers_of}
use Rattle.dft_logic.specs.declared.circuit.Operand.{Operand}
use Rattle.dft_logic.specs.declared.circuit.Operand.TheVariants.{Net, Tied, Loose}
use Rattle.dft_logic.specs.declared.circuit.Op.{Op}
use Rattle.dft_logic.specs.declared.circuit.Op.TheVariants.{Input, Clock, Gate, Joined, Flop, Lockup, Free}
use Rattle.dft_logic.specs.declared.circuit.ScanPins.{ScanPins}
use Rattle.dft_logic.specs.declared.circuit.Acting.{Acting}
use Rattle.dft_logic.specs.declared.circuit.Acting.TheVariants as acting
use Rattle.dft_logic.specs.declared.circuit.FlipFlop.{FlipFlop}
use Rattle.dft_logic.specs.declared.circuit.Latch.{Latch}
use Rattle.dft_logic.specs.Tables.{IsTable}

-- ---- what the parts stand for

abbrev pub source_at : Operand → Source
source_at (Net net) = drivers.Net net.0
source_at (Tied bit) = drivers.Tied bit
source_at (Loose instance pin) = drivers.Loose instance.0 pin

abbrev pub meaning : Op → Meaning
meaning Input = meanings.Input
meaning Clock = meanings.Clock
meaning (Gate kind inputs) = meanings.Gate kind (map source_at inputs)
meaning (Joined source) = meanings.Joined (source_at source)
meaning (Flop instance inverted) = meanings.Flop instance.0 inverted
meaning (Lockup instance domain high source) = meanings.Lockup instance.0 domain.0 high (source_at source)
meaning Free = meanings.Free

abbrev pub scan_at : Option ScanPins → Option (Scan Source)
scan_at None = None
scan_at (Some pins) = Some (record { enable = source_at pins.enable; input = source_at pins.input })

-- the reset, or the set of a flip-flop that has no reset
abbrev pub alone : (is_preset : Bool) → Option ℕ → Forces ℕ
alone is_preset None = no_forces
alone true (Some port) = record { clear = None; preset = Some port }
alone false (Some port) = record { clear = Some port; preset = None }

abbrev pub force_at : Option Acting → Forces ℕ
force_at None = no_forces
force_at (Some (acting.Clear port)) = alone false (Some port.0)
force_at (Some (acting.Preset port)) = alone true (Some port.0)

-- not both a reset and a set
abbrev pub IsOneForce : Forces ℕ → Type 0
IsOneForce forces = (forces.clear ≡ None) ⊎ (forces.preset ≡ None)

abbrev pub takes_at : FlipFlop → Takes Source
takes_at f = record { input = source_at f.input; scan = scan_at f.scan }

abbrev pub cell_of : FlipFlop → Cell
cell_of f = record { domain = f.domain.0; falling = f.falling; takes = takes_at f; forces = force_at f.force }

-- ---- a circuit

-- what each net takes its value from, by net, in an order; by instance what it stores a bit in, and the lock-up that it is; and what is found by tables
pub record Circuit : Type 0 where
  pub order : List NetId
  pub ops : List Op
  pub flops : List FlipFlop
  pub latches : List (Option Latch)
  pub readers : List (List ℕ)
  pub sources : List (List ℕ)
  pub leaves : List (List ℕ)
  pub cells : List (List ℕ)
  pub holders : List (List ℕ)
  pub followers : List (List ℕ)

-- ---- the circuit's logic

abbrev pub op_at : List Op → ℕ → Op
op_at ops net = slice_index_or ops net Free

-- past the end there is no cell
abbrev pub cell_at : List Cell → ℕ → Cell
cell_at cells c = slice_index_or cells c (no_cell c)

-- the domain and the input of the lock-up of an instance
abbrev pub latch_of : Option Latch → Option (ℕ × Source)
latch_of None = None
latch_of (Some latch) = Some (latch.domain.0, source_at latch.input)

abbrev pub latch_at : List (Option Latch) → ℕ → Option (ℕ × Source)
latch_at latches c = latch_of (slice_index_or latches c None)

unfoldable pub logic_at : Circuit → Logic
logic_at x = record { net = λ net. meaning (op_at x.ops net); cell = λ c. cell_at (map cell_of x.flops) c }

-- ---- what every circuit keeps

-- a gate has as many inputs as it takes
abbrev pub Fits : Op → Type 0
Fits (Gate kind inputs) = TakesInputs kind (length inputs)
Fits Input = Unit {0}
Fits Clock = Unit {0}
Fits (Joined source) = Unit {0}
Fits (Flop instance inverted) = Unit {0}
Fits (Lockup instance domain high source) = Unit {0}
Fits Free = Unit {0}

-- each of these nets is new, and comes after the nets that its value is settled from; the others came before
abbrev pub AreOrdered : List Op → (before nets : List ℕ) → Type 0
AreOrdered ops before [] = Unit {0}
AreOrdered ops before (net ∷ nets) =
    (Has before net → ⊥) × (net < length ops) × AllByRecursion (Has before) (reads (meaning (op_at ops net)))
    × AreOrdered ops (net ∷ before) nets

-- a net that shows an input, a clock, a flip-flop or a lock-up is listed at place 0
abbrev pub source_places : Meaning → List ℕ
source_places meanings.Input = 0 ∷ []
source_places meanings.Clock = 0 ∷ []
source_places (meanings.Gate kind inputs) = []
source_places (meanings.Joined source) = []
source_places (meanings.Flop c inverted) = 0 ∷ []
source_places (meanings.Lockup c e high source) = 0 ∷ []
source_places meanings.Free = []

-- the domain whose clock, flip-flop or lock-up a net shows
abbrev pub leaf_domains : List Cell → (net : ℕ) → Meaning → List ℕ
leaf_domains cells net meanings.Input = []
leaf_domains cells net meanings.Clock = net ∷ []
leaf_domains cells net (meanings.Gate kind inputs) = []
leaf_domains cells net (meanings.Joined source) = []
leaf_domains cells net (meanings.Flop c inverted) = (cell_at cells c).domain ∷ []
leaf_domains cells net (meanings.Lockup c e high source) = e ∷ []
leaf_domains cells net meanings.Free = []

abbrev pub latch_domains : Option (ℕ × Source) → List ℕ
latch_domains None = []
latch_domains (Some latch) = latch.0 ∷ []

abbrev pub with_port : Option ℕ → List ℕ → List ℕ
with_port None ports = ports
with_port (Some port) ports = port ∷ ports

-- the ports of a reset and a set
abbrev pub force_nets : Forces ℕ → List ℕ
force_nets forces = with_port forces.clear (with_port forces.preset [])

-- by net, what reads it and what it resets or sets; and for a clock what shows its domain, its flip-flops and its lock-ups
pub record AreTables (x : Circuit) : Type 0 where
  pub readers : IsTable (length x.ops) (length x.ops) (λ net. reads (meaning (op_at x.ops net))) x.readers
  pub sources : IsTable 1 (length x.ops) (λ net. source_places (meaning (op_at x.ops net))) x.sources
  pub leaves : IsTable (length x.ops) (length x.ops) (λ net. leaf_domains (map cell_of x.flops) net (meaning (op_at x.ops net))) x.leaves
  pub cells : IsTable (length x.ops) (length x.flops) (λ c. (cell_at (map cell_of x.flops) c).domain ∷ []) x.cells
  pub holders : IsTable (length x.ops) (length x.latches) (λ c. latch_domains (latch_at x.latches c)) x.holders
  pub followers : IsTable (length x.ops) (length x.flops) (λ c. force_nets (cell_at (map cell_of x.flops) c).forces) x.followers

pub record IsCircuit (x : Circuit) : Type 0 where
  pub fits : (net : ℕ) → Fits (op_at x.ops net)
  pub whole : (net : ℕ) → net < length x.ops → Has (numbers_of x.order) net
  pub after : AreOrdered x.ops [] (numbers_of x.order)
  pub count : length x.order ≡ length x.ops
  -- a lock-up's instance tells its domain and its input
  pub latched : (net c e : ℕ) (high : Bool) (source : Source) → meaning (op_at x.ops net) ≡ meanings.Lockup c e high source → latch_at x.latches c ≡ Some (e, source)
  -- and stores its bit as its cell says
  pub stored : (net c e : ℕ) (high : Bool) (source : Source) → meaning (op_at x.ops net) ≡ meanings.Lockup c e high source → cell_at (map cell_of x.flops) c ≡ lockup_cell e high source
  pub instances : length x.latches ≡ length x.flops
  pub tables : AreTables x

-- ---- settling

-- what inputs, clocks and flip-flops show, and lock-ups by the values of their inputs
pub record Supply : Type 0 where
  pub ports : ℕ → Tri
  pub clocks : ℕ → Tri
  pub flops : ℕ → Tri
  pub lockups : (cell clock : ℕ) (high : Bool) (input : Tri) → Tri

-- the sources, where nets have these values
abbrev pub leaves_from : Supply → (values : ℕ → Tri) → TriSources
leaves_from s values = record { ports = s.ports; clocks = s.clocks; flops = s.flops; lockups = λ c e high source. s.lockups c e high (value_from values source) }

-- a bit at a place of a list, and 0 past its end
abbrev pub flag_at : List Bool → ℕ → Bool
flag_at flags place = slice_index_or flags place false

-- ---- a flip-flop, from the values of a view

-- What a flip-flop takes. No cell of today takes anything of its own value, so that this stands as Unknown.
abbrev pub taken_at : Cell → (values : ℕ → Tri) → Tri
taken_at cell values = tri_taken_by cell.takes Unknown (value_from values)

-- its next value
abbrev pub next_at : Cell → (ports values : ℕ → Tri) → Tri
next_at cell ports values = tri_forced_by cell.forces ports (taken_at cell values)
