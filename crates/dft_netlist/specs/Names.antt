-- The printed names of a netlist: of nets, among them the bits of ports, of vector ports and of instances (IEEE 1364, identifiers).
use Rattle.std.specs.Prelude.{ℕ, suc, ◌≡◌, ◌<◌, ◌^◌, Bool, false, List, [], ◌∷◌, ◌++◌, map, Option, None, Some, slice_get, if◌then◌else◌}
use Rattle.std.specs.List.{filter_map}
use Rattle.std.specs.Option.{option_and_then}
use Rattle.std.specs.Str.{bytes_eq}
use Rattle.std.specs.Fmt.{decimal}
use Rattle.dft_base.specs.declared.place.Range.{Range}
pub use Rattle.dft_base.specs.Ranges.{going_up, going_down, indices_of}
use Rattle.dft_cells.specs.WellFormed.{has_name}
use Rattle.dft_netlist.specs.declared.ids.NetId.{NetId}
use Rattle.dft_netlist.specs.declared.ids.InstanceId.{InstanceId}
use Rattle.dft_netlist.specs.declared.port.Port.{Port}
use Rattle.dft_netlist.specs.declared.instance.Instance.{Instance}
use Rattle.dft_netlist.specs.declared.named.Named.{Named}
use Rattle.dft_netlist.specs.declared.named.Named.TheVariants.{Net, Vector, Instance as AnInstance}
use Rattle.dft_netlist.specs.Netlist.{Netlist}
use Rattle.dft_base.specs.Lexing.{Text}
use Rattle.dft_base.specs.Name.{IsName}

-- ---- the names of a port's bits

-- the printed name of a bit of a vector: the vector's name and the bit's index in brackets, in decimal
abbrev pub bit_name : Text → (index : ℕ) → Text
bit_name name index = name ++ (91 ∷ decimal index) ++ 93 ∷ []

-- the printed names of a port's bits, the leftmost first; a scalar port has one bit, of its own name
abbrev pub bit_names : Text → Option Range → List Text
bit_names name None = name ∷ []
bit_names name (Some range) = map (bit_name name) (indices_of range)

-- the names that a port takes, in the order in which they are tested: a vector's own name, then its bits'
abbrev pub port_names : Text → Option Range → List Text
port_names name None = name ∷ []
port_names name (Some range) = name ∷ map (bit_name name) (indices_of range)

-- ---- what is named

-- the own name of a vector port
abbrev pub vector_name_in : Text → Option Range → Option Text
vector_name_in name None = None
vector_name_in name (Some range) = Some name

abbrev pub vector_name : Port → Option Text
vector_name port = vector_name_in port.name port.range

-- a gate may have no name
abbrev pub instance_name : Instance → Option Text
instance_name instance = instance.name

-- this is what the printed name stands for
abbrev pub Names : Netlist → Text → Named → Type 0
Names n name (Net net) = slice_get n.nets net.0 ≡ Some name
Names n name (Vector port) = option_and_then vector_name (slice_get n.ports port.0) ≡ Some name
Names n name (AnInstance instance) = option_and_then instance_name (slice_get n.instances instance.0) ≡ Some name

-- a printed name stands for one thing at most
abbrev pub NamesDiffer : Netlist → Type 0
NamesDiffer n = (name : Text) (a b : Named) → Names n name a → Names n name b → a ≡ b

-- ---- names are names

-- a name, if there is one
abbrev pub IsNameIfAny : Option Text → Type 0
IsNameIfAny None = Unit {0}
IsNameIfAny (Some name) = IsName name

-- a range, if there is one, is of 16-bit numbers
abbrev pub IsShortRange : Option Range → Type 0
IsShortRange None = Unit {0}
IsShortRange (Some range) = (range.left < 2 ^ 16) × (range.right < 2 ^ 16)

-- the names of the module, of its ports, nets and instances are names, and the ranges of its ports are of 16-bit numbers
pub record HasNames (n : Netlist) : Type 0 where
  pub own : IsName n.name
  pub ports : (place : ℕ) (port : Port) → slice_get n.ports place ≡ Some port → IsName port.name × IsShortRange port.range
  pub nets : (place : ℕ) (name : Text) → slice_get n.nets place ≡ Some name → IsName name
  pub instances : (place : ℕ) (instance : Instance) → slice_get n.instances place ≡ Some instance → IsNameIfAny instance.name

-- ---- names that are taken

-- the printed names that are taken
abbrev pub names_taken : Netlist → List Text
names_taken n = n.nets ++ (filter_map vector_name n.ports ++ filter_map instance_name n.instances)

-- whether a name is taken
abbrev pub is_taken : Netlist → Text → Bool
is_taken n name = has_name (names_taken n) name

-- the first of these names that is taken
abbrev pub first_taken : Netlist → List Text → Option Text
first_taken n [] = None
first_taken n (name ∷ names) = if is_taken n name then Some name else first_taken n names

-- ---- look-ups

-- the number of the first of these nets with this name; the first of them has the number `from`
abbrev pub find_net_from : (from : ℕ) → List Text → Text → Option NetId
find_net_from from [] name = None
find_net_from from (other ∷ nets) name = if bytes_eq other name then Some (record { 0 = from }) else find_net_from (suc from) nets name

-- the net with this name
abbrev pub find_net : Netlist → Text → Option NetId
find_net n name = find_net_from 0 n.nets name

abbrev pub has_this_name : Option Text → Text → Bool
has_this_name None name = false
has_this_name (Some other) name = bytes_eq other name

abbrev pub find_instance_from : (from : ℕ) → List Instance → Text → Option InstanceId
find_instance_from from [] name = None
find_instance_from from (instance ∷ instances) name = if has_this_name instance.name name then Some (record { 0 = from }) else find_instance_from (suc from) instances name

-- the instance with this name
abbrev pub find_instance : Netlist → Text → Option InstanceId
find_instance n name = find_instance_from 0 n.instances name

-- this is what the name stands for, or it stands for nothing
abbrev pub IsNamed : Netlist → Text → Option Named → Type 0
IsNamed n name None = (named : Named) → Names n name named → ⊥
IsNamed n name (Some named) = Names n name named
