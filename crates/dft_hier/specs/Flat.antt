-- The flat design of modules: the nets, joins and instances at all module instances below the top, as one module (IEEE 1364, names of hierarchy
-- with `/` between them).
use Rattle.std.specs.Prelude.{ℕ, zero, suc, ◌+◌, List, [], ◌∷◌, ◌++◌, length, map, drop, find, Option, Some, None, option_map, Ok}
use Rattle.std.specs.Str.{bytes_eq}
use Rattle.dft_base.specs.Lexing.{Text}
use Rattle.dft_base.specs.declared.dir.Dir.{Dir}
use Rattle.dft_base.specs.declared.dir.Dir.TheVariants as dir
use Rattle.dft_cells.specs.declared.cell.Cell.{Cell}
use Rattle.dft_netlist.specs.declared.ids.NetId.{NetId}
use Rattle.dft_netlist.specs.declared.port.Port.{Port}
use Rattle.dft_netlist.specs.declared.instance.Signal.{Signal}
use Rattle.dft_netlist.specs.declared.instance.Signal.TheVariants as signal
use Rattle.dft_netlist.specs.declared.instance.Instance.{Instance}
use Rattle.dft_netlist.specs.declared.instance.Join.{Join}
use Rattle.dft_netlist.specs.Netlist.{Netlist}
use Rattle.dft_netlist.specs.Building.{empty_netlist, instance_refusal}
use Rattle.dft_netlist_text.specs.NetlistText.{Grown, unless_refused, and_grown, add_port, add_nets}
use Rattle.dft_modules.specs.declared.connections.Connection.{Connection}
use Rattle.dft_modules.specs.declared.module.SubInstance.{SubInstance}
use Rattle.dft_modules.specs.declared.module.Item.{Item}
use Rattle.dft_modules.specs.declared.module.Item.TheVariants as item
use Rattle.dft_modules.specs.Modules.{Module}
use Rattle.dft_hier.specs.Hierarchy.{find_module}

-- what modules give: nets by their names, joins and instances, all by the numbers of the flat design
pub record Parts : Type 0 where
  pub nets : List Text
  pub joins : List Join
  pub instances : List Instance

abbrev pub no_parts : Parts
no_parts = record { nets = []; joins = []; instances = [] }

-- parts, and others behind them
abbrev pub and_parts : Parts → Parts → Parts
and_parts a b = record { nets = a.nets ++ b.nets; joins = a.joins ++ b.joins; instances = a.instances ++ b.instances }

-- ---- by the numbers and names of the flat design

-- a net of a module whose first net has this number
abbrev pub moved_net : (first : ℕ) → NetId → NetId
moved_net first net = record { 0 = first + net.0 }

abbrev pub moved : (first : ℕ) → Signal → Signal
moved first (signal.Net net) = signal.Net (moved_net first net)
moved first (signal.Constant bit) = signal.Constant bit
moved first signal.Unconnected = signal.Unconnected

abbrev pub moved_join : (first : ℕ) → Join → Join
moved_join first j = record { target = moved_net first j.target; source = moved first j.source }

-- an instance, whose name, if it has one, comes behind a prefix
abbrev pub moved_instance : (prefix : Text) → (first : ℕ) → Instance → Instance
moved_instance prefix first i = record { name = option_map (λ name. prefix ++ name) i.name; cell = i.cell; pins = map (moved first) i.pins }

-- the prefix of names inside an instance
abbrev pub inside : (prefix name : Text) → Text
inside prefix name = prefix ++ name ++ 47 ∷ []

-- ---- what an instance joins to the ports of its module

abbrev pub signals_of : Option Connection → List Signal
signals_of None = []
signals_of (Some c) = c.signals

-- the bits that a port is joined to, leftmost first; none where no connection names it
abbrev pub joined_to : List Connection → (port : Text) → List Signal
joined_to connections port = signals_of (find (λ (c : Connection). bytes_eq c.port port) connections)

-- an input bit takes what is outside, and a net outside takes the output bit
abbrev pub bit_joins : Dir → (bit : NetId) → (outside : Signal) → List Join
bit_joins dir.Input bit outside = record { target = bit; source = outside } ∷ []
bit_joins dir.Output bit (signal.Net net) = record { target = net; source = signal.Net bit } ∷ []
bit_joins dir.Output bit (signal.Constant value) = []
bit_joins dir.Output bit signal.Unconnected = []

-- the bits of a port from the left
abbrev pub port_joins : Dir → (bits : List NetId) → (outside : List Signal) → List Join
port_joins d [] signals = []
port_joins d (bit ∷ bits) [] = []
port_joins d (bit ∷ bits) (to ∷ signals) = bit_joins d bit to ++ port_joins d bits signals

-- the ports in the order of the module, where the first net outside and the first inside have these numbers
abbrev pub connection_joins : (outside within : ℕ) → List Connection → List Port → List Join
connection_joins outside within connections [] = []
connection_joins outside within connections (p ∷ ps) =
    port_joins p.dir (map (moved_net within) p.bits) (map (moved outside) (joined_to connections p.name)) ++ connection_joins outside within connections ps

-- ---- modules below modules

-- what a module and all below it give, for a prefix of its names and a number of its first net
abbrev pub Giving : Type 0
Giving = (prefix : Text) → (first : ℕ) → Module → Parts

-- what an instance gives: the joins of its connections, and then what its module gives
abbrev pub sub_parts : Giving → (prefix : Text) → (outside first : ℕ) → SubInstance → Option Module → Parts
sub_parts give prefix outside first s None = no_parts
sub_parts give prefix outside first s (Some m) =
    and_parts (record { nets = []; joins = connection_joins outside first s.connections m.ports; instances = [] }) (give (inside prefix s.name) first m)

-- The items of a module whose first net has the number `first`, in order. The nets of the next module instance are numbered from `next` on.
abbrev pub item_parts : Giving → List Module → (prefix : Text) → (first next : ℕ) → List Item → Parts
item_parts give ms prefix first next [] = no_parts
item_parts give ms prefix first next (item.Join j ∷ items) =
    and_parts (record { nets = []; joins = moved_join first j ∷ []; instances = [] }) (item_parts give ms prefix first next items)
item_parts give ms prefix first next (item.Cell i ∷ items) =
    and_parts (record { nets = []; joins = []; instances = moved_instance prefix first i ∷ [] }) (item_parts give ms prefix first next items)
item_parts give ms prefix first next (item.Sub s ∷ items) =
    let here = sub_parts give prefix first next s (find_module ms s.of) in
    and_parts here (item_parts give ms prefix first (next + length here.nets) items)

-- A module's own nets, then its items, so many modules deep at most.
abbrev pub parts_within : (depth : ℕ) → List Module → Giving
parts_within zero ms prefix first m = no_parts
parts_within (suc depth) ms prefix first m =
    and_parts (record { nets = map (λ name. prefix ++ name) m.nets; joins = []; instances = [] })
    (item_parts (parts_within depth ms) ms prefix first (first + length m.nets) m.items)

-- all that the top and the modules below it give; without recursion no module stands deeper than there are modules
abbrev pub flat_parts : List Module → (top : Module) → Parts
flat_parts ms top = parts_within (length ms) ms [] 0 top

-- ---- the flat design

-- the ports of the top
abbrev pub add_ports : List Port → Netlist → Grown
add_ports [] n = Ok n
add_ports (p ∷ ps) n = and_grown (add_port n p.name p.dir p.range) (add_ports ps)

-- one instance more
abbrev pub add_instances : List Instance → Netlist → Grown
add_instances [] n = Ok n
add_instances (i ∷ is) n = and_grown (unless_refused (instance_refusal n i.name) (record n { instances = n.instances ++ i ∷ [] })) (add_instances is)

-- the other nets, the joins, and then the instances behind the ports, whose bits are the first nets
abbrev pub add_parts : Parts → Netlist → Grown
add_parts parts n = and_grown (add_nets (drop (length n.nets) parts.nets) n) (λ nets. add_instances parts.instances (record nets { joins = nets.joins ++ parts.joins }))

-- The flat netlist, or why a part of it is refused. It is built in this order: the ports of the top, all nets, all instances.
unfoldable pub flat_netlist : List Module → List Cell → (top : Module) → Grown
flat_netlist ms library top = and_grown (add_ports top.ports (empty_netlist top.name library)) (add_parts (flat_parts ms top))
