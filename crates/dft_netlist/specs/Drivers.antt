-- What drives each net of a design.
use Rattle.std.specs.Prelude.{ℕ, zero, suc, ◌<◌, ◌≤◌, length, Bool, true, false, List, [], ◌∷◌, ◌++◌, Option, None, Some, map, slice_get, if◌then◌else◌, ◌==◌}
use Rattle.dft_cells.specs.declared.kind.Kind.{Kind}
use Rattle.dft_cells.specs.declared.kind.Kind.TheVariants as kind
use Rattle.dft_cells.specs.declared.kind.Gate.{Gate as GateKind}
use Rattle.dft_cells.specs.declared.kind.Role.{Role}
use Rattle.dft_cells.specs.declared.kind.Role.TheVariants as role
use Rattle.dft_cells.specs.declared.cell.Cell.{Cell}
pub use Rattle.dft_cells.specs.Pins.{is_input}
use Rattle.dft_netlist.specs.declared.ids.NetId.{NetId}
use Rattle.dft_netlist.specs.declared.instance.Signal.{Signal}
use Rattle.dft_netlist.specs.declared.instance.Signal.TheVariants as signal
use Rattle.dft_netlist.specs.declared.instance.CellRef.{CellRef}
use Rattle.dft_netlist.specs.declared.instance.CellRef.TheVariants as cell_ref
use Rattle.dft_netlist.specs.declared.instance.Instance.{Instance}
use Rattle.dft_netlist.specs.declared.instance.Join.{Join}
use Rattle.dft_netlist.specs.declared.port.Port.{Port}
use Rattle.dft_base.specs.declared.dir.Dir.{Dir}
use Rattle.dft_base.specs.declared.dir.Dir.TheVariants as dir
use Rattle.dft_netlist.specs.Netlist.{Netlist}

-- ---- the pins of an instance

-- the kind of an instance, and what each of its pins is for
pub record Shape : Type 0 where
  pub kind : Kind
  pub roles : List Role

-- a gate primitive's pins: its inputs, then its output
abbrev pub gate_roles : (inputs : ℕ) → List Role
gate_roles zero = role.Output ∷ []
gate_roles (suc inputs) = role.Input ∷ gate_roles inputs

-- a number that names no cell is that of a cell without pins
abbrev pub shape_of_cell : Option Cell → Shape
shape_of_cell None = record { kind = kind.Opaque; roles = [] }
shape_of_cell (Some cell) = record { kind = cell.kind; roles = map (λ pin. pin.role) cell.pins }

abbrev pub shape_of : List Cell → CellRef → Shape
shape_of library (cell_ref.Library cell) = shape_of_cell (slice_get library cell.0)
shape_of library (cell_ref.Gate gate inputs) = record { kind = kind.Gate gate; roles = gate_roles inputs }

-- a pin of an instance: what it is for, its number, and what it is joined to
pub record Connection : Type 0 where
  pub role : Role
  pub pin : ℕ
  pub to : Signal

-- the pins from a number on
abbrev pub connections_from : (pin : ℕ) → List Role → List Signal → List Connection
connections_from pin [] signals = []
connections_from pin (role ∷ roles) [] = []
connections_from pin (role ∷ roles) (to ∷ signals) = record { role = role; pin = pin; to = to } ∷ connections_from (suc pin) roles signals

abbrev pub connections_of : List Cell → Instance → List Connection
connections_of library instance = connections_from 0 (shape_of library instance.cell).roles instance.pins

-- ---- where an input pin takes its bit from

pub data Source : Type 0 where
  Net : (net : ℕ) → Source
  Tied : (bit : Bool) → Source
  -- an unconnected pin has a free bit of its own, by its instance and its number
  Loose : (instance pin : ℕ) → Source

abbrev pub source_of : (instance pin : ℕ) → Signal → Source
source_of instance pin (signal.Net net) = Net net.0
source_of instance pin (signal.Constant bit) = Tied bit
source_of instance pin signal.Unconnected = Loose instance pin

-- the sources of a gate's inputs, in the order of its pins
abbrev pub inputs_of : (instance : ℕ) → List Connection → List Source
inputs_of instance [] = []
inputs_of instance (c ∷ cs) = if is_input c.role then source_of instance c.pin c.to ∷ inputs_of instance cs else inputs_of instance cs

-- ---- drivers

pub data Driver : Type 0 where
  -- an input port's bit
  Input : Driver
  -- a gate, a table or a tie
  Gate : (gate : GateKind) → (inputs : List Source) → Driver
  -- a join
  Joined : (source : Source) → Driver
  -- a flip-flop's output, or its inverse
  Flop : (instance : ℕ) → (inverted : Bool) → Driver
  Lockup : (instance : ℕ) → Driver
  -- nothing, or the output of an opaque cell
  Free : Driver

abbrev pub driver_of_kind : Kind → (instance : ℕ) → (inverted : Bool) → List Source → Driver
driver_of_kind kind.Opaque i inverted inputs = Free
driver_of_kind kind.Lockup i inverted inputs = Lockup i
driver_of_kind (kind.Flop flop) i inverted inputs = Flop i inverted
driver_of_kind (kind.Gate gate) i inverted inputs = Gate gate inputs

-- a net and what drives it
abbrev pub Driven : Type 0
Driven = ℕ × Driver

abbrev pub at_signal : Signal → Driver → List Driven
at_signal (signal.Net net) driver = (net.0, driver) ∷ []
at_signal (signal.Constant bit) driver = []
at_signal signal.Unconnected driver = []

-- what a pin of this role drives: an output pin its net, another pin nothing
abbrev pub at_role : Role → Kind → (instance : ℕ) → List Source → Signal → List Driven
at_role role.Output kind i inputs to = at_signal to (driver_of_kind kind i false inputs)
at_role role.Inverted kind i inputs to = at_signal to (driver_of_kind kind i true inputs)
at_role role.Input kind i inputs to = []
at_role role.Clock kind i inputs to = []
at_role role.Din kind i inputs to = []
at_role role.Reset kind i inputs to = []
at_role role.Preset kind i inputs to = []
at_role role.ScanIn kind i inputs to = []
at_role role.ScanEnable kind i inputs to = []

abbrev pub driven_by_pins : Kind → (instance : ℕ) → List Source → List Connection → List Driven
driven_by_pins kind i inputs [] = []
driven_by_pins kind i inputs (c ∷ cs) = at_role c.role kind i inputs c.to ++ driven_by_pins kind i inputs cs

abbrev pub driven_by : List Cell → (instance : ℕ) → Instance → List Driven
driven_by library i instance =
    let pins = connections_of library instance in
    driven_by_pins (shape_of library instance.cell).kind i (inputs_of i pins) pins

-- the instances from a number on
abbrev pub driven_by_instances : List Cell → (instance : ℕ) → List Instance → List Driven
driven_by_instances library i [] = []
driven_by_instances library i (instance ∷ instances) = driven_by library i instance ++ driven_by_instances library (suc i) instances

abbrev pub driven_by_bits : Dir → List NetId → List Driven
driven_by_bits dir.Output bits = []
driven_by_bits dir.Input [] = []
driven_by_bits dir.Input (net ∷ bits) = (net.0, Input) ∷ driven_by_bits dir.Input bits

abbrev pub driven_by_ports : List Port → List Driven
driven_by_ports [] = []
driven_by_ports (port ∷ ports) = driven_by_bits port.dir port.bits ++ driven_by_ports ports

-- the number of a source's pin says nothing here: an assignment's source is connected
abbrev pub driven_by_joins : List Join → List Driven
driven_by_joins [] = []
driven_by_joins (join ∷ joins) = (join.target.0, Joined (source_of 0 0 join.source)) ∷ driven_by_joins joins

-- every driven net with its driver: input ports, then instances, then joins
abbrev pub all_driven : Netlist → List Driven
all_driven n = driven_by_ports n.ports ++ driven_by_instances n.library 0 n.instances ++ driven_by_joins n.joins

-- the first driver of a net in a list
abbrev pub driver_in : List Driven → ℕ → Driver
driver_in [] net = Free
driver_in (d ∷ ds) net = if d.0 == net then d.1 else driver_in ds net

-- what drives a net. A finished design has one driver at most for each.
abbrev pub driver : Netlist → ℕ → Driver
driver n net = driver_in (all_driven n) net

-- ---- the order of nets

abbrev pub nets_of : List Source → List ℕ
nets_of [] = []
nets_of (Net net ∷ sources) = net ∷ nets_of sources
nets_of (Tied bit ∷ sources) = nets_of sources
nets_of (Loose i pin ∷ sources) = nets_of sources

-- the sources of all the input pins of a lock-up, its clock too
abbrev pub is_lockup_input : Role → Bool
is_lockup_input role.Clock = true
is_lockup_input role.Din = true
is_lockup_input role.Input = false
is_lockup_input role.Reset = false
is_lockup_input role.Preset = false
is_lockup_input role.ScanIn = false
is_lockup_input role.ScanEnable = false
is_lockup_input role.Output = false
is_lockup_input role.Inverted = false

abbrev pub lockup_inputs : (instance : ℕ) → List Connection → List Source
lockup_inputs i [] = []
lockup_inputs i (c ∷ cs) = if is_lockup_input c.role then source_of i c.pin c.to ∷ lockup_inputs i cs else lockup_inputs i cs

-- the pins of the instance with this number
abbrev pub pins_at : List Cell → Option Instance → List Connection
pins_at library None = []
pins_at library (Some instance) = connections_of library instance

abbrev pub pins_of : Netlist → (instance : ℕ) → List Connection
pins_of n i = pins_at n.library (slice_get n.instances i)

-- the kind of the instance with this number; a number past the end is as a cell that is not modelled
abbrev pub kind_of : List Cell → Option Instance → Kind
kind_of library None = kind.Opaque
kind_of library (Some instance) = (shape_of library instance.cell).kind

abbrev pub kind_at : Netlist → (instance : ℕ) → Kind
kind_at n i = kind_of n.library (slice_get n.instances i)

-- the nets that a driver reads at the same moment; flip-flops and opaque cells read none
abbrev pub nets_read : Netlist → Driver → List ℕ
nets_read n Input = []
nets_read n (Gate kind inputs) = nets_of inputs
nets_read n (Joined source) = nets_of (source ∷ [])
nets_read n (Flop i inverted) = []
nets_read n (Lockup i) = nets_of (lockup_inputs i (pins_of n i))
nets_read n Free = []

-- each of these nets stands below a rank
abbrev pub AreBelow : (rank : ℕ → ℕ) → ℕ → List ℕ → Type 0
AreBelow rank r [] = Unit {0}
AreBelow rank r (net ∷ nets) = (rank net < r) × AreBelow rank r nets

-- an order of the nets, by the place of each: it stands after the nets that its driver reads
pub record IsOrdered (n : Netlist) (rank : ℕ → ℕ) : Type 0 where
  pub after : (net : ℕ) → AreBelow rank (rank net) (nets_read n (driver n net))
  pub within : (net : ℕ) → rank net ≤ length n.nets
