-- What a design does, for given clock ports and reset ports: what each net's bit is, and what each flip-flop and lock-up takes.
use Rattle.std.specs.Prelude.{ℕ, Bool, true, false, ◌≡◌, List, [], ◌∷◌, Option, None, Some, if◌then◌else◌}
use Rattle.std.specs.Option.{option_or}
use Rattle.dft_cells.specs.declared.kind.Kind.{Kind}
use Rattle.dft_cells.specs.declared.kind.Kind.TheVariants as kind
use Rattle.dft_cells.specs.declared.kind.Gate.{Gate as GateKind}
use Rattle.dft_cells.specs.declared.kind.Role.TheVariants as role
use Rattle.dft_cells.specs.FlipFlops.{is_flip_flop, Scan, Takes, Forces, no_forces}
use Rattle.dft_netlist.specs.Netlist.{Netlist}
use Rattle.dft_netlist.specs.Drivers.{Source, Loose, Driver, Connection, source_of, pins_of, kind_at, driver, nets_of, AreBelow}
use Rattle.dft_netlist.specs.Drivers as drivers
use Rattle.dft_netlist.specs.Connections.{pin_of}
use Rattle.dft_behavior.specs.Traces.{Root, Port, Constant, Other, root_of}
use Rattle.dft_behavior.specs.ClockRoots.{ClockRoot, clock_root_of}

-- which input ports' bits are clocks, and which are resets or sets, by their nets
pub record Ports : Type 0 where
  pub is_clock : ℕ → Bool
  pub is_reset : ℕ → Bool

-- ---- what the laws see

pub data Meaning : Type 0 where
  -- an input port's bit that is no clock
  Input : Meaning
  -- a clock port's bit
  Clock : Meaning
  Gate : (kind : GateKind) → (inputs : List Source) → Meaning
  Joined : (source : Source) → Meaning
  -- a modelled flip-flop's bit, or its inverse
  Flop : (cell : ℕ) → (inverted : Bool) → Meaning
  -- a lock-up, by its instance and the net of the clock port that its clock comes from; a high one is a wire while that clock is high, another
  -- one while it is low
  Lockup : (cell domain : ℕ) → (high : Bool) → (source : Source) → Meaning
  -- any bit at any moment
  Free : Meaning

-- what stores a bit: a modelled flip-flop or a lock-up. Its domain is the net of the clock port that its clock pin shows, itself or inverted.
pub record Cell : Type 0 where
  pub domain : ℕ
  -- whether it takes its bit at the fall of its clock, else at the rise
  pub falling : Bool
  pub takes : Takes Source
  -- its reset and its set, by the nets of the ports that are 0 where they act
  pub forces : Forces ℕ

-- The meaning of each net, and the cell of each instance. An instance that is neither a modelled flip-flop nor a lock-up on a clock port
-- has a cell that no net shows.
pub record Logic : Type 0 where
  pub net : ℕ → Meaning
  pub cell : ℕ → Cell

-- ---- what a design is for the laws

-- a pin that a cell has not is as one that is not connected
abbrev pub or_loose : (instance : ℕ) → Option Source → Source
or_loose i None = Loose i 0
or_loose i (Some source) = source

-- a clock that is shown, where its port is a clock port
abbrev pub domain_of : Ports → Option ClockRoot → Option ClockRoot
domain_of ports None = None
domain_of ports (Some root) = if ports.is_clock root.port then Some root else None

-- the clock port that a clock pin shows, itself or inverted
abbrev pub domain_at : Netlist → Ports → Option Source → Option ClockRoot
domain_at n ports None = None
domain_at n ports (Some source) = domain_of ports (clock_root_of n source)

-- What a reset or set is, by its root: None where it keeps its flip-flop from being modelled, Some None where it never acts.
abbrev pub force_of : Ports → Root → Option (Option ℕ)
force_of ports (Port net) = if ports.is_reset net then Some (Some net) else None
force_of ports (Constant true) = Some None
force_of ports (Constant false) = None
force_of ports Other = None

abbrev pub force_at : Netlist → Ports → (pin : Option Source) → Option (Option ℕ)
force_at n ports None = Some None
force_at n ports (Some source) = force_of ports (root_of n source)

abbrev pub both_forces : (clear preset : Option (Option ℕ)) → Option (Forces ℕ)
both_forces (Some clear) (Some preset) = Some (record { clear = clear; preset = preset })
both_forces (Some clear) None = None
both_forces None preset = None

-- the reset and the set of a flip-flop, by what its pins read
abbrev pub forcing : Netlist → Ports → Forces Source → Option (Forces ℕ)
forcing n ports pins = both_forces (force_at n ports pins.clear) (force_at n ports pins.preset)

abbrev pub scan_of : (enable input : Option Source) → Option (Scan Source)
scan_of (Some enable) (Some input) = Some (record { enable = enable; input = input })
scan_of (Some enable) None = None
scan_of None input = None

-- what a flip-flop with these pins takes, and what forces it
abbrev pub takes_of : (instance : ℕ) → List Connection → Takes Source
takes_of i pins = record { input = or_loose i (pin_of role.Din i pins); scan = scan_of (pin_of role.ScanEnable i pins) (pin_of role.ScanIn i pins) }

abbrev pub forces_of : (instance : ℕ) → List Connection → Forces Source
forces_of i pins = record { clear = pin_of role.Reset i pins; preset = pin_of role.Preset i pins }

-- A flip-flop is modelled where its clock shows a clock port, and its reset and set trace to a reset port or to constant 1. It is falling where
-- its clock is inverted.
abbrev pub modelled : Option ClockRoot → Option (Forces ℕ) → Takes Source → Option Cell
modelled (Some clock) (Some forces) takes = Some (record { domain = clock.port; falling = clock.inverted; takes = takes; forces = forces })
modelled (Some clock) None takes = None
modelled None forces takes = None

abbrev pub modelled_of : Netlist → Ports → (instance : ℕ) → List Connection → Option Cell
modelled_of n ports i pins =
    modelled (domain_at n ports (pin_of role.Clock i pins)) (forcing n ports (forces_of i pins)) (takes_of i pins)

-- the modelled flip-flop that an instance is, if it is one
abbrev pub flip_flop : Netlist → Ports → (instance : ℕ) → Option Cell
flip_flop n ports i = if is_flip_flop (kind_at n i) then modelled_of n ports i (pins_of n i) else None

-- what a cell without scan pins takes
abbrev pub plain : Source → Takes Source
plain source = record { input = source; scan = None }

-- a lock-up's cell has no scan pins, no reset and no set; it takes its bit where it stops being a wire
abbrev pub lockup_cell : (domain : ℕ) → (high : Bool) → Source → Cell
lockup_cell domain high source = record { domain = domain; falling = high; takes = plain source; forces = no_forces }

-- a lock-up is high where its clock is inverted
abbrev pub locked : Option ClockRoot → Source → Option Cell
locked None source = None
locked (Some clock) source = Some (lockup_cell clock.port clock.inverted source)

abbrev pub is_lockup : Kind → Bool
is_lockup kind.Lockup = true
is_lockup _ = false

-- the lock-up on a clock port that an instance is, if it is one
abbrev pub lock_up : Netlist → Ports → (instance : ℕ) → Option Cell
lock_up n ports i = if is_lockup (kind_at n i) then locked (domain_at n ports (pin_of role.Clock i (pins_of n i))) (or_loose i (pin_of role.Din i (pins_of n i))) else None

-- what an instance stores a bit in
abbrev pub stored : Netlist → Ports → (instance : ℕ) → Option Cell
stored n ports i = option_or (flip_flop n ports i) (lock_up n ports i)

-- the cell of an instance that stores none
abbrev pub no_cell : (instance : ℕ) → Cell
no_cell i = record { domain = 0; falling = false; takes = plain (Loose i 0); forces = no_forces }

abbrev pub cell_or_none : (instance : ℕ) → Option Cell → Cell
cell_or_none i None = no_cell i
cell_or_none i (Some cell) = cell

abbrev pub flop_meaning : (instance : ℕ) → (inverted : Bool) → Option Cell → Meaning
flop_meaning i inverted None = Free
flop_meaning i inverted (Some cell) = Flop i inverted

abbrev pub lockup_meaning : (instance : ℕ) → Option ClockRoot → Source → Meaning
lockup_meaning i None source = Free
lockup_meaning i (Some clock) source = Lockup i clock.port clock.inverted source

abbrev pub meaning_of : Netlist → Ports → (net : ℕ) → Driver → Meaning
meaning_of n ports net drivers.Input = if ports.is_clock net then Clock else Input
meaning_of n ports net (drivers.Gate kind inputs) = Gate kind inputs
meaning_of n ports net (drivers.Joined source) = Joined source
meaning_of n ports net (drivers.Flop i inverted) = flop_meaning i inverted (flip_flop n ports i)
meaning_of n ports net (drivers.Lockup i) = lockup_meaning i (domain_at n ports (pin_of role.Clock i (pins_of n i))) (or_loose i (pin_of role.Din i (pins_of n i)))
meaning_of n ports net drivers.Free = Free

abbrev pub logic_of : Netlist → Ports → Logic
logic_of n ports = record {
  net = λ net. meaning_of n ports net (driver n net);
  cell = λ i. cell_or_none i (stored n ports i);
}

-- ---- an order of the nets of a logic

-- the nets that a net's bit is settled from
abbrev pub reads : Meaning → List ℕ
reads Input = []
reads Clock = []
reads (Gate kind inputs) = nets_of inputs
reads (Joined source) = nets_of (source ∷ [])
reads (Flop cell inverted) = []
reads (Lockup cell domain high source) = nets_of (source ∷ [])
reads Free = []

-- each net stands after those that it is settled from, and what a lock-up's net shows is the lock-up's cell
pub record IsRanked (l : Logic) (rank : ℕ → ℕ) : Type 0 where
  pub order : (net : ℕ) → AreBelow rank (rank net) (reads (l.net net))
  pub lockups : (net c e : ℕ) (high : Bool) (source : Source) → l.net net ≡ Lockup c e high source → l.cell c ≡ lockup_cell e high source

-- ---- edges

-- every cell takes its bit at the rise of its clock
abbrev pub IsRising : Logic → Type 0
IsRising l = (c : ℕ) → (l.cell c).falling ≡ false
