-- Which clock a source shows: its root, where that is an input port's bit or its inverse.
use Rattle.std.specs.Prelude.{ℕ, Bool, true, false, Option, None, Some}
use Rattle.dft_cells.specs.declared.kind.Kind.{Kind}
use Rattle.dft_cells.specs.declared.kind.Kind.TheVariants as cell_kind
use Rattle.dft_cells.specs.declared.kind.Gate.{Gate as GateKind}
use Rattle.dft_cells.specs.declared.kind.Gate.TheVariants.{Buf, Inv}
use Rattle.dft_netlist.specs.Netlist.{Netlist}
use Rattle.dft_netlist.specs.Drivers.{Source}
use Rattle.dft_behavior.specs.NetRoots.{NetRoot, Port, Constant, Other, Rooted, net_root_of}

-- an input port's bit, by its net, or its inverse
pub record ClockRoot : Type 0 where
  pub port : ℕ
  pub inverted : Bool

-- a port's bit itself
abbrev pub port_root : (port : ℕ) → ClockRoot
port_root port = record { port = port; inverted = false }

-- whether a gate that passes on a clock turns it: a buffer does not, an inverter does, and no other gate passes one on
abbrev pub turn_of : GateKind → Option Bool
turn_of Buf = Some false
turn_of Inv = Some true
turn_of _ = None

-- the same of a kind: another than a gate passes none on
abbrev pub turn_of_kind : Kind → Option Bool
turn_of_kind (cell_kind.Gate gate) = turn_of gate
turn_of_kind _ = None

-- the clock that a source with this root shows
abbrev pub clock_of : NetRoot → Option ClockRoot
clock_of (Port net inverted straight) = Some (record { port = net; inverted = inverted })
clock_of (Constant bit) = None
clock_of Other = None

-- a source shows a port's bit or its inverse where a list of nets leads to the port, each driven by a buffer, an inverter or a join from the next
pub record ClockRooted (n : Netlist) (source : Source) (port : ℕ) (inverted : Bool) : Type 0 where
  pub straight : Bool
  pub rooted : Rooted n source (Port port inverted straight)

-- the clock that a source shows
abbrev pub clock_root_of : Netlist → Source → Option ClockRoot
clock_root_of n source = clock_of (net_root_of n source)
