-- How a netlist grows by one thing after another, and when none of them is refused.
use Rattle.std.specs.Prelude.{◌≡◌, List, ◌∷◌, ◌++◌, length, map, Option, None, []}
use Rattle.dft_base.specs.Lexing.{Text}
use Rattle.dft_base.specs.declared.place.Range.{Range}
use Rattle.dft_base.specs.declared.dir.Dir.{Dir}
use Rattle.dft_netlist.specs.declared.port.Port.{Port}
use Rattle.dft_netlist.specs.declared.instance.Instance.{Instance}
use Rattle.dft_netlist.specs.declared.instance.Join.{Join}
use Rattle.dft_netlist.specs.declared.error.NetlistError.{NetlistError}
use Rattle.dft_netlist.specs.declared.error.NetlistError.TheVariants.{MultipleDrivers, Loop, DuplicateName, TooMany, Memory}
use Rattle.dft_netlist.specs.Netlist.{Netlist}
use Rattle.dft_netlist.specs.Names.{bit_names}
use Rattle.dft_netlist.specs.NetNumbers.{nets_from}
use Rattle.dft_netlist.specs.Building.{port_of, port_refusal, net_refusal, instance_refusal}
use Rattle.dft_netlist.specs.Sound.{HasOnlyPorts, IsInstanceOf, IsJoinOf}

-- a port with the nets of its bits, another net, an instance, or a join
pub data Thing : Type 0 where
  APort : (port : Port) → Thing
  ANet : (name : Text) → Thing
  AnInstance : (instance : Instance) → Thing
  AJoin : (join : Join) → Thing

-- the netlist with one thing more
abbrev pub with_thing : Netlist → Thing → Netlist
with_thing n (APort port) = record n { ports = n.ports ++ port ∷ []; nets = n.nets ++ bit_names port.name port.range }
with_thing n (ANet name) = record n { nets = n.nets ++ name ∷ [] }
with_thing n (AnInstance instance) = record n { instances = n.instances ++ instance ∷ [] }
with_thing n (AJoin join) = record n { joins = n.joins ++ join ∷ [] }

-- the netlist with all of these, one after another
abbrev pub with_things : Netlist → List Thing → Netlist
with_things n [] = n
with_things n (thing ∷ things) = with_things (with_thing n thing) things

-- the port that comes next: its bits are the next nets
abbrev pub next_port : Netlist → Text → Dir → Option Range → Port
next_port n name dir range = port_of name dir range (nets_from (length n.nets) (length (bit_names name range)))

-- a port comes next, and is not refused
pub record PortFits (n : Netlist) (port : Port) : Type 0 where
  pub only : HasOnlyPorts n
  pub next : port ≡ next_port n port.name port.dir port.range
  pub passes : port_refusal n port.name port.range ≡ None

-- an instance can stand in the netlist, and is not refused
pub record InstanceFits (n : Netlist) (instance : Instance) : Type 0 where
  pub sound : IsInstanceOf n instance.name instance.cell instance.pins
  pub passes : instance_refusal n instance.name ≡ None

-- a thing can be added
abbrev pub Fits : Netlist → Thing → Type 0
Fits n (APort port) = PortFits n port
Fits n (ANet name) = net_refusal n name ≡ None
Fits n (AnInstance instance) = InstanceFits n instance
Fits n (AJoin join) = IsJoinOf n join.target join.source

-- these can be added, one after another
abbrev pub AllFit : Netlist → List Thing → Type 0
AllFit n [] = Unit {0}
AllFit n (thing ∷ things) = Fits n thing × AllFit (with_thing n thing) things

abbrev pub port_things : List Port → List Thing
port_things ports = map (λ port. APort port) ports

abbrev pub net_things : List Text → List Thing
net_things names = map (λ name. ANet name) names

abbrev pub instance_things : List Instance → List Thing
instance_things instances = map (λ instance. AnInstance instance) instances

abbrev pub join_things : List Join → List Thing
join_things joins = map (λ join. AJoin join) joins

-- the error of a builder that refuses nothing
abbrev pub IsMemory : NetlistError → Type 0
IsMemory (MultipleDrivers name) = ⊥
IsMemory (Loop name) = ⊥
IsMemory (DuplicateName name) = ⊥
IsMemory (TooMany what limit) = ⊥
IsMemory (Memory error) = Unit {0}
