-- The places that drive nets, in order, and what is noted of them.
use Rattle.std.specs.Prelude.{ℕ, suc, List, [], ◌∷◌, ◌++◌, Option, None, Some, slice_get, slice_set, if◌then◌else◌, nat_le}
use Rattle.dft_cells.specs.declared.kind.Role.{Role}
use Rattle.dft_cells.specs.declared.cell.Cell.{Cell}
use Rattle.dft_netlist.specs.declared.ids.NetId.{NetId}
use Rattle.dft_netlist.specs.declared.port.Port.{Port}
use Rattle.dft_base.specs.declared.dir.Dir.{Dir}
use Rattle.dft_base.specs.declared.dir.Dir.TheVariants as dir
use Rattle.dft_netlist.specs.declared.instance.Signal.{Signal}
use Rattle.dft_netlist.specs.declared.instance.Signal.TheVariants as signal
use Rattle.dft_netlist.specs.declared.instance.Instance.{Instance}
use Rattle.dft_netlist.specs.declared.instance.Join.{Join as AJoin}
use Rattle.dft_netlist.specs.declared.net_driver.NetDriver.{NetDriver}
use Rattle.dft_netlist.specs.declared.net_driver.NetDriver.TheVariants.{Input, Pin, Join, Nothing}
use Rattle.dft_netlist.specs.Netlist.{Netlist}
use Rattle.dft_netlist.specs.Drivers.{shape_of}
use Rattle.dft_netlist.specs.Sound.{is_output}

-- a net and the place that drives it
abbrev pub Drive : Type 0
Drive = NetId × NetDriver

abbrev pub bit_drives : List NetId → List Drive
bit_drives [] = []
bit_drives (net ∷ bits) = (net, Input) ∷ bit_drives bits

abbrev pub drives_of_dir : Dir → List NetId → List Drive
drives_of_dir dir.Input bits = bit_drives bits
drives_of_dir dir.Output bits = []

abbrev pub port_drives : Port → List Drive
port_drives port = drives_of_dir port.dir port.bits

abbrev pub ports_drives : List Port → List Drive
ports_drives [] = []
ports_drives (port ∷ ports) = port_drives port ++ ports_drives ports

abbrev pub net_drives : Signal → NetDriver → List Drive
net_drives (signal.Net net) by = (net, by) ∷ []
net_drives (signal.Constant bit) by = []
net_drives signal.Unconnected by = []

abbrev pub pin_drives : (instance pin : ℕ) → Role → Signal → List Drive
pin_drives i pin role to = if is_output role then net_drives to (Pin (record { 0 = i }) pin) else []

-- the pins of an instance from a number on
abbrev pub pins_drives : (instance pin : ℕ) → List Role → List Signal → List Drive
pins_drives i pin [] signals = []
pins_drives i pin (role ∷ roles) [] = []
pins_drives i pin (role ∷ roles) (to ∷ signals) = pin_drives i pin role to ++ pins_drives i (suc pin) roles signals

abbrev pub instance_drives : List Cell → (number : ℕ) → Instance → List Drive
instance_drives library i instance = pins_drives i 0 (shape_of library instance.cell).roles instance.pins

abbrev pub instances_drives : List Cell → (number : ℕ) → List Instance → List Drive
instances_drives library i [] = []
instances_drives library i (instance ∷ instances) = instance_drives library i instance ++ instances_drives library (suc i) instances

abbrev pub joins_drives : (number : ℕ) → List AJoin → List Drive
joins_drives j [] = []
joins_drives j (join ∷ joins) = (join.target, Join j) ∷ joins_drives (suc j) joins

-- all of a netlist, in the order of its drivers
abbrev pub all_drives : Netlist → List Drive
all_drives n = ports_drives n.ports ++ (instances_drives n.library 0 n.instances ++ joins_drives 0 n.joins)

-- what is noted: what drives each net first, and the least net that was driven again
pub record Notes : Type 0 where
  pub found : List NetDriver
  pub clash : Option NetId

abbrev pub least_net : Option NetId → NetId → Option NetId
least_net None net = Some net
least_net (Some other) net = if nat_le other.0 net.0 then Some other else Some net

-- one drive is noted, where this is noted of its net
abbrev pub noted_at : Option NetDriver → Notes → Drive → Notes
noted_at None notes d = notes
noted_at (Some Nothing) notes d = record notes { found = slice_set notes.found d.0.0 d.1 }
noted_at (Some Input) notes d = record notes { clash = least_net notes.clash d.0 }
noted_at (Some (Pin i p)) notes d = record notes { clash = least_net notes.clash d.0 }
noted_at (Some (Join j)) notes d = record notes { clash = least_net notes.clash d.0 }

abbrev pub noted : Notes → Drive → Notes
noted notes d = noted_at (slice_get notes.found d.0.0) notes d

abbrev pub all_noted : Notes → List Drive → Notes
all_noted notes [] = notes
all_noted notes (d ∷ ds) = all_noted (noted notes d) ds
