-- The design with a stuck net: its driver is taken away, and a join to a constant stands in its place.
use Rattle.std.specs.Prelude.{ℕ, ◌≡◌, ◌<◌, ◌≤◌, Bool, true, false, not, ◌&&◌, List, [], ◌∷◌, ◌++◌, map, filter, length, take, Option, None, Some, ◌==◌, if◌then◌else◌}
use Rattle.dft_cells.specs.declared.cell.Cell.{Cell}
use Rattle.dft_cells.specs.declared.kind.Role.{Role}
use Rattle.dft_netlist.specs.declared.instance.Signal.{Signal}
use Rattle.dft_netlist.specs.declared.instance.Signal.TheVariants.{Net, Constant, Unconnected}
use Rattle.dft_netlist.specs.declared.instance.Instance.{Instance}
use Rattle.dft_netlist.specs.declared.instance.Join.{Join}
use Rattle.dft_netlist.specs.Netlist.{Netlist}
use Rattle.dft_netlist.specs.Connections.{is_input}
use Rattle.dft_netlist.specs.Drivers.{driver, shape_of}
use Rattle.dft_netlist.specs.NetDrivers.{times_driven}
use Rattle.dft_netlist.specs.Sound.{bits_of, is_output}
use Rattle.dft_faults.specs.declared.fault.Fault.{Fault}

-- a pin is joined to this net
abbrev pub is_at : (net : ℕ) → Signal → Bool
is_at net (Net other) = other.0 == net
is_at net (Constant bit) = false
is_at net Unconnected = false

-- what a pin is joined to once nothing drives the net: an output pin at it is unconnected
abbrev pub loosened_pin : (net : ℕ) → Role → Signal → Signal
loosened_pin net role to = if is_output role && is_at net to then Unconnected else to

-- the same for a pin whose role is looked up
abbrev pub loosened_at : (net : ℕ) → Option Role → Signal → Signal
loosened_at net None to = to
loosened_at net (Some role) to = loosened_pin net role to

-- the pins of an instance, each beside its role
abbrev pub loosened_pins : (net : ℕ) → List Role → List Signal → List Signal
loosened_pins net [] pins = pins
loosened_pins net (role ∷ roles) [] = []
loosened_pins net (role ∷ roles) (to ∷ pins) = loosened_pin net role to ∷ loosened_pins net roles pins

-- the instance once nothing drives the net
abbrev pub loosened : List Cell → (net : ℕ) → Instance → Instance
loosened library net instance = record instance { pins = loosened_pins net (shape_of library instance.cell).roles instance.pins }

-- whether a join is of another net
abbrev pub is_elsewhere : (net : ℕ) → Join → Bool
is_elsewhere net join = not (join.target.0 == net)

-- the join that keeps a net at a bit
abbrev pub stuck_join : Fault → Join
stuck_join f = record { target = f.net; source = Constant f.value }

-- The design with a stuck net: the output pin at the net is unconnected or its join is left out, and a join of the net to the constant is added last.
abbrev pub faulty : Netlist → Fault → Netlist
faulty n f = record n {
  instances = map (loosened n.library f.net.0) n.instances;
  joins = filter (is_elsewhere f.net.0) n.joins ++ stuck_join f ∷ [];
}

-- the ports of a design with the nets of their bits, over its cells, and nothing else
abbrev pub ports_alone : Netlist → Netlist
ports_alone n = record { name = n.name; library = n.library; ports = n.ports; nets = take (length (bits_of n.ports)) n.nets; instances = []; joins = [] }

-- a net that can be stuck has a driver and is no bit of an input port
pub record IsFault (n : Netlist) (f : Fault) : Type 0 where
  pub live : f.net.0 < length n.nets
  pub driven : 1 ≤ times_driven n f.net.0
  pub inner : is_input (driver n f.net.0) ≡ false
