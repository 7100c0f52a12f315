-- Where the next values of cells are read.
use Rattle.std.specs.Prelude.{ℕ, Bool, false, ◌&&◌, if◌then◌else◌, ◌≡◌, List, length, Option, None, Some, slice_get, slice_index_or}
use Rattle.std.specs.List.{list_any}
use Rattle.dft_base.specs.declared.tri.Tri.{Tri}
use Rattle.dft_base.specs.declared.tri.Tri.TheVariants.{Unknown}
use Rattle.dft_base.specs.Tri.{known}
use Rattle.dft_cells.specs.declared.kind.Role.TheVariants as role
use Rattle.dft_netlist.specs.declared.ids.NetId.{NetId}
use Rattle.dft_netlist.specs.declared.ids.InstanceId.{InstanceId}
use Rattle.dft_netlist.specs.declared.instance.Signal.{Signal}
use Rattle.dft_netlist.specs.declared.instance.Signal.TheVariants.{Net, Constant, Unconnected}
use Rattle.dft_netlist.specs.Netlist.{Netlist}
use Rattle.dft_netlist.specs.Drivers.{Source, pins_of, source_of}
use Rattle.dft_netlist.specs.Connections.{pin_of}
use Rattle.dft_behavior.specs.Logic.{or_loose}
use Rattle.dft_behavior.specs.Settled.{value_from}
use Rattle.dft_behavior.specs.declared.root.ClockRoot as declared
use Rattle.dft_behavior.specs.ClockRoots.{ClockRoot, clock_root_of}
use Rattle.dft_behavior.specs.Roots.{shown_clock}
use Rattle.dft_behavior.specs.Runs.{takes}
use Rattle.dft_rules.specs.Rules.{is_net}
use Rattle.dft_expect.specs.declared.reads.Read.{Read}

-- ---- pins

abbrev pub or_unconnected : Option Signal → Signal
or_unconnected None = Unconnected
or_unconnected (Some signal) = signal

-- the value at what a pin is joined to
abbrev pub value_of_signal : (ℕ → Tri) → Signal → Tri
value_of_signal values (Net net) = values net.0
value_of_signal values (Constant bit) = known bit
value_of_signal values Unconnected = Unknown

-- ---- clocks

-- the clock that a source shows, if there is one
abbrev pub clock_of : Netlist → Option Source → Option ClockRoot
clock_of n None = None
clock_of n (Some source) = clock_root_of n source

-- the clock at what a pin is joined to
abbrev pub clock_at : Netlist → Option Signal → Option ClockRoot
clock_at n None = None
clock_at n (Some signal) = clock_root_of n (source_of 0 0 signal)

-- ---- the reads of cells

pub record IsReadOf (n : Netlist) (cell : ℕ) (read : Read) : Type 0 where
  pub clock : shown_clock read.clock ≡ clock_of n (pin_of role.Clock cell (pins_of n cell))
  pub input : (values : ℕ → Tri) → value_of_signal values read.input ≡ value_from values (or_loose cell (pin_of role.Din cell (pins_of n cell)))

-- past the end nothing is read
abbrev pub read_at : List Read → (number : ℕ) → Read
read_at reads number = slice_index_or reads number (record { clock = None; input = Unconnected })

pub record AreReads (n : Netlist) (cells : List InstanceId) (reads : List Read) : Type 0 where
  pub count : length reads ≡ length cells
  pub each : (number : ℕ) (cell : InstanceId) → slice_get cells number ≡ Some cell → IsReadOf n cell.0 (read_at reads number)

-- ---- what is read

-- whether a cell on this clock, if it is on one, takes its bit at this edge of the clock that captures
abbrev pub is_at : Option declared.ClockRoot → (captures : Option NetId) → (rising : Bool) → Bool
is_at None captures rising = false
is_at (Some root) captures rising = is_net root.port.0 captures && takes rising root.inverted

-- what is read of a cell at an edge: its next value where it takes one, and else what it had before
abbrev pub read_value : (ℕ → Tri) → (captures : Option NetId) → (rising : Bool) → (before : Tri) → Read → Tri
read_value values captures rising before read = if is_at read.clock captures rising then value_of_signal values read.input else before

-- whether a cell is on an inverted clock
abbrev pub is_falling : Option declared.ClockRoot → Bool
is_falling None = false
is_falling (Some root) = root.inverted

abbrev pub any_falls : List Read → Bool
any_falls reads = list_any (λ read. is_falling read.clock) reads
