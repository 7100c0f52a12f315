-- Why a scanned netlist cannot be made: the first thing that is added and refused.
use Rattle.std.specs.Prelude.{ℕ, ◌+◌, pos, nat_le, List, [], ◌∷◌, length, take, Option, None, Some, option_map, if◌then◌else◌}
use Rattle.dft_netlist.specs.declared.error.Counted.TheVariants.{Nets}
use Rattle.dft_netlist.specs.declared.error.NetlistError.{NetlistError}
use Rattle.dft_netlist.specs.declared.error.NetlistError.TheVariants as netlist
use Rattle.dft_netlist.specs.declared.limits.TheConstants.{MAX_NETS}
use Rattle.dft_netlist.specs.Building.{port_refusal}
use Rattle.dft_netlist.specs.Names.{is_taken}
use Rattle.dft_netlist.specs.Netlist.{Netlist}
use Rattle.dft_netlist.specs.Sound.{bits_of}
use Rattle.dft_config.specs.Config.{Config}
use Rattle.dft_stitch.specs.Plans.{Plan}
use Rattle.dft_parts.specs.Parts.{parts_refusal}
use Rattle.dft_scan_frame.specs.declared.error.InsertError.{InsertError}
use Rattle.dft_scan_frame.specs.declared.error.InsertError.TheVariants.{NameClash, TooMany, Memory}
use Rattle.dft_scan_frame.specs.AddedPorts.{NewPort}
use Rattle.dft_scan_frame.specs.Growing.{APort, next_port, with_thing}
use Rattle.dft_scan_frame.specs.Refusals.{or_else}
use Rattle.dft_insert.specs.declared.style.Style.{Style}
use Rattle.dft_insert.specs.Ports.{added_ports}
use Rattle.dft_insert.specs.Scanned.{framed, parts_of}

-- A refusal of the builder, as it is told: a name that is taken, or a limit. Of two drivers and of loops a netlist that only grows
-- tells nothing.
abbrev pub as_told : NetlistError → InsertError
as_told (netlist.DuplicateName name) = NameClash name
as_told (netlist.TooMany what limit) = TooMany what limit
as_told (netlist.Memory error) = Memory error
as_told (netlist.MultipleDrivers name) = NameClash name
as_told (netlist.Loop name) = NameClash name

-- ---- ports

-- the design's ports with their nets
abbrev pub ports_alone : Netlist → Netlist
ports_alone n = record { name = n.name; library = n.library; ports = n.ports; nets = take (length (bits_of n.ports)) n.nets; instances = []; joins = [] }

-- one port of one bit more
abbrev pub with_port : Netlist → NewPort → Netlist
with_port s port = with_thing s (APort (next_port s port.name port.dir None))

-- and all of these
abbrev pub with_ports : Netlist → List NewPort → Netlist
with_ports s [] = s
with_ports s (port ∷ ports) = with_ports (with_port s port) ports

-- why a port cannot be added to the ports so far: its name is one of the design, or what the builder says
abbrev pub new_port_refusal : Netlist → (so_far : Netlist) → NewPort → Option InsertError
new_port_refusal n s port = if is_taken n port.name then Some (NameClash port.name) else option_map as_told (port_refusal s port.name None)

-- the first of these ports that is refused
abbrev pub ports_refusal : Netlist → (so_far : Netlist) → List NewPort → Option InsertError
ports_refusal n s [] = None
ports_refusal n s (port ∷ ports) = or_else (new_port_refusal n s port) (ports_refusal n (with_port s port) ports)

-- ---- the design's other nets

abbrev pub room_refusal : Netlist → (added : ℕ) → Option InsertError
room_refusal n added = if nat_le (length n.nets + added) MAX_NETS then None else Some (TooMany Nets (pos MAX_NETS))

-- ---- the refusal

-- The added ports in order; then the design's other nets, of which only the limit of nets is told, since no added name is theirs; its
-- instances and joins, which are never refused; and then what is made.
abbrev pub frame_refusal : Style → Netlist → Config → Option InsertError
frame_refusal style n config = or_else (ports_refusal n (ports_alone n) (added_ports style config)) (room_refusal n (length (added_ports style config)))

unfoldable pub refusal : Style → Netlist → Config → Plan → Option InsertError
refusal style n config plan = or_else (frame_refusal style n config) (option_map as_told (parts_refusal (framed style n config) (parts_of style n config plan)))
