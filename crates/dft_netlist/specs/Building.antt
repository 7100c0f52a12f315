-- How a netlist grows.
use Rattle.std.specs.Prelude.{ℕ, ◌+◌, ◌≡◌, pos, List, [], ◌∷◌, ◌++◌, length, Option, None, Some, Result, Ok, Err, nat_le, if◌then◌else◌, slice_get, slice_set}
use Rattle.dft_cells.specs.declared.cell.Cell.{Cell}
use Rattle.dft_base.specs.declared.place.Range.{Range}
use Rattle.dft_netlist.specs.declared.ids.NetId.{NetId}
use Rattle.dft_netlist.specs.declared.ids.PortId.{PortId}
use Rattle.dft_netlist.specs.declared.ids.InstanceId.{InstanceId}
use Rattle.dft_base.specs.declared.dir.Dir.{Dir}
use Rattle.dft_netlist.specs.declared.port.Port.{Port}
use Rattle.dft_netlist.specs.declared.instance.Instance.{Instance}
use Rattle.dft_netlist.specs.declared.instance.Join.{Join}
use Rattle.dft_netlist.specs.declared.instance.Signal.TheVariants.{Net, Unconnected}
use Rattle.dft_netlist.specs.declared.error.Counted.TheVariants.{Ports, Nets, Instances}
use Rattle.dft_netlist.specs.declared.error.NetlistError.{NetlistError}
use Rattle.dft_netlist.specs.declared.error.NetlistError.TheVariants.{MultipleDrivers, Loop, DuplicateName, TooMany, Memory}
use Rattle.dft_netlist.specs.declared.limits.TheConstants.{MAX_PORTS, MAX_NETS, MAX_INSTANCES}
use Rattle.dft_netlist.specs.Names.{bit_names, port_names, is_taken, first_taken}
use Rattle.dft_netlist.specs.NetNumbers.{nets_from}
use Rattle.dft_netlist.specs.Netlist.{Netlist}
use Rattle.dft_base.specs.Lexing.{Text}

-- the netlist with this name over these cells that has nothing yet
abbrev pub empty_netlist : Text → List Cell → Netlist
empty_netlist name library = record { name = name; library = library; ports = []; nets = []; instances = []; joins = [] }

-- new is old with one instance more
pub record WithInstance (old : Netlist) (instance : Instance) (id : InstanceId) (new : Netlist) : Type 0 where
  pub number : id.0 ≡ length old.instances
  pub grown : new ≡ record old { instances = old.instances ++ instance ∷ [] }

-- a port of these bits
abbrev pub port_of : Text → Dir → Option Range → (bits : List NetId) → Port
port_of name dir range bits = record { name = name; dir = dir; range = range; bits = bits }

-- new is old with one port more, whose bits are new nets, the leftmost first
pub record WithPort (old : Netlist) (name : Text) (dir : Dir) (range : Option Range) (port : PortId) (new : Netlist) : Type 0 where
  pub number : port.0 ≡ length old.ports
  pub grown : new ≡ record old {
    ports = old.ports ++ port_of name dir range (nets_from (length old.nets) (length (bit_names name range))) ∷ [];
    nets = old.nets ++ bit_names name range;
  }

-- new is old with one net more
pub record WithNet (old : Netlist) (name : Text) (net : NetId) (new : Netlist) : Type 0 where
  pub number : net.0 ≡ length old.nets
  pub grown : new ≡ record old { nets = old.nets ++ name ∷ [] }

-- new is old with one join more
abbrev pub WithJoin : (old : Netlist) → Join → (new : Netlist) → Type 0
WithJoin old join new = new ≡ record old { joins = old.joins ++ join ∷ [] }

-- the instance with this pin joined to this net
abbrev pub with_pin : Instance → (pin : ℕ) → NetId → Instance
with_pin instance pin net = record instance { pins = slice_set instance.pins pin (Net net) }

-- new is old with this pin of this instance joined to this net
pub record Connected (old : Netlist) (id : InstanceId) (pin : ℕ) (net : NetId) (new : Netlist) : Type 0 where
  pub instance : Instance
  pub at : slice_get old.instances id.0 ≡ Some instance
  pub changed : new ≡ record old { instances = slice_set old.instances id.0 (with_pin instance pin net) }

-- the pin of this number is there and joined to nothing
pub record IsUnconnected (n : Netlist) (id : InstanceId) (pin : ℕ) : Type 0 where
  pub instance : Instance
  pub at : slice_get n.instances id.0 ≡ Some instance
  pub free : slice_get instance.pins pin ≡ Some Unconnected

-- ---- refusals

-- one port more, with so many bits, is refused by the number of ports, then by that of nets
abbrev pub room_limit : Netlist → (width : ℕ) → Option NetlistError
room_limit n width =
    if nat_le (length n.ports + 1) MAX_PORTS
    then (if nat_le (length n.nets + width) MAX_NETS then None else Some (TooMany Nets (pos MAX_NETS)))
    else Some (TooMany Ports (pos MAX_PORTS))

abbrev pub port_limit : Netlist → Text → Option Range → Option NetlistError
port_limit n name range = room_limit n (length (bit_names name range))

-- a name that is taken comes before a limit
abbrev pub taken_or : Option Text → Option NetlistError → Option NetlistError
taken_or None limit = limit
taken_or (Some name) limit = Some (DuplicateName name)

-- a port is refused by the first of its names that is taken; where none is, by a limit
abbrev pub port_refusal : Netlist → Text → Option Range → Option NetlistError
port_refusal n name range = taken_or (first_taken n (port_names name range)) (port_limit n name range)

-- a net is refused where its name is taken, else by the number of nets
abbrev pub net_refusal : Netlist → Text → Option NetlistError
net_refusal n name =
    if is_taken n name then Some (DuplicateName name)
    else (if nat_le (length n.nets + 1) MAX_NETS then None else Some (TooMany Nets (pos MAX_NETS)))

-- the names of an instance: its own, if it has one
abbrev pub own_names : Option Text → List Text
own_names None = []
own_names (Some name) = name ∷ []

-- an instance is refused where its name is taken, else by the number of instances
abbrev pub instance_refusal : Netlist → Option Text → Option NetlistError
instance_refusal n name =
    taken_or (first_taken n (own_names name)) (if nat_le (length n.instances + 1) MAX_INSTANCES then None else Some (TooMany Instances (pos MAX_INSTANCES)))

-- the answer is this refusal exactly, or none, but for want of memory
abbrev pub Answers : {A : Type 0} → Option NetlistError → Result A NetlistError → Type 0
Answers refusal (Ok a) = refusal ≡ None
Answers refusal (Err (MultipleDrivers name)) = refusal ≡ Some (MultipleDrivers name)
Answers refusal (Err (Loop name)) = refusal ≡ Some (Loop name)
Answers refusal (Err (DuplicateName name)) = refusal ≡ Some (DuplicateName name)
Answers refusal (Err (TooMany what limit)) = refusal ≡ Some (TooMany what limit)
Answers refusal (Err (Memory error)) = Unit {0}
