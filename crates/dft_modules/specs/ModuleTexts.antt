-- The modules that a text says, in its order, or why it is refused (IEEE 1364, structural part).
use Rattle.std.specs.Prelude.{ℕ, zero, suc, ◌+◌, ◌-◌, Bool, ◌&&◌, ◌||◌, if◌then◌else◌, List, [], ◌∷◌, ◌++◌, length, map, take, drop, is_some, slice_index_or, Option, Some, None, Result, Ok, Err}
use Rattle.std.specs.List.{list_any}
use Rattle.std.specs.Str.{bytes_eq}
use Rattle.dft_base.specs.Lexing.{Text, place_of}
use Rattle.dft_base.specs.Parser as parser
use Rattle.dft_base.specs.Parser.{◌>>=◌}
use Rattle.dft_cells.specs.declared.cell.Cell.{Cell}
use Rattle.dft_cells.specs.Cells.{find_cell}
use Rattle.dft_netlist.specs.declared.port.Port.{Port}
use Rattle.dft_netlist.specs.declared.ids.NetId.{NetId}
use Rattle.dft_netlist.specs.declared.instance.Signal.{Signal}
use Rattle.dft_netlist.specs.declared.instance.Signal.TheVariants as signal
use Rattle.dft_netlist.specs.declared.instance.Instance.{Instance}
use Rattle.dft_netlist.specs.declared.instance.Join.{Join}
use Rattle.dft_netlist.specs.Building.{port_of}
use Rattle.dft_netlist.specs.NetNumbers.{nets_from}
use Rattle.dft_netlist_text.specs.declared.text.TokenKind.TheVariants as kind
use Rattle.dft_netlist_text.specs.declared.text.Declared.{Declared}
use Rattle.dft_netlist_text.specs.declared.text.Fault.{Fault}
use Rattle.dft_netlist_text.specs.Lexemes.{Token, tokens}
use Rattle.dft_netlist_text.specs.Steps.{bytes, left, next, sees, refusal}
use Rattle.dft_netlist_text.specs.Modules.{Draft, HeaderPort, net_count}
use Rattle.dft_netlist_text.specs.NetlistText.{nets_of_port, net_order, final_net}
use Rattle.dft_modules.specs.declared.connections.Connection.{Connection}
use Rattle.dft_modules.specs.declared.fault.ModulesFault.{ModulesFault}
use Rattle.dft_modules.specs.declared.fault.ModulesFault.TheVariants as fault
use Rattle.dft_modules.specs.declared.module.Item.{Item}
use Rattle.dft_modules.specs.declared.module.Item.TheVariants as item
use Rattle.dft_modules.specs.Modules.{Module}
use Rattle.dft_modules.specs.SubInstances.{SubConnection, DraftSub, Said, one_module}

-- ---- a module by the final numbers of its nets

-- the port of a name, whose first bit has this number
abbrev pub port_said : (first : ℕ) → Text → Option Declared → List Port
port_said first word None = []
port_said first word (Some declared) = port_of word declared.dir declared.shape.range (nets_from first (net_count declared.shape.range)) ∷ []

-- the ports in the order of the header, whose bits are numbered one after another
abbrev pub ports_said : (first : ℕ) → List HeaderPort → List Port
ports_said first [] = []
ports_said first (port ∷ ports) = port_said first port.name port.declared ++ ports_said (first + length (nets_of_port port.declared)) ports

-- the names of nets in this order
abbrev pub names_in_order : List ℕ → List Text → List Text
names_in_order order nets = map (λ net. slice_index_or nets net []) order

-- how the nets of a draft are numbered in the module
abbrev pub Numbering : Type 0
Numbering = NetId → NetId

-- a signal by the number of its net in the module
abbrev pub signal_by : Numbering → Signal → Signal
signal_by number (signal.Net net) = signal.Net (number net)
signal_by number (signal.Constant bit) = signal.Constant bit
signal_by number signal.Unconnected = signal.Unconnected

-- a join, and a cell or gate
abbrev pub join_said : Numbering → Join → Item
join_said number j = item.Join (record { target = number j.target; source = signal_by number j.source })

abbrev pub cell_said : Numbering → Instance → Item
cell_said number i = item.Cell (record i { pins = map (signal_by number) i.pins })

-- a connection, with the line and column of its port's name
abbrev pub connection_said : Text → Numbering → SubConnection → Connection
connection_said text number c = record { place = place_of text c.left; port = c.port; signals = map (signal_by number) c.signals }

-- a module instance
abbrev pub sub_said : Text → Numbering → DraftSub → Item
sub_said text number s = item.Sub (record { name = s.name; of = s.of; connections = map (connection_said text number) s.connections })

-- those of a list from one place up to another
abbrev pub between : {A : Type 0} → (from to : ℕ) → List A → List A
between from to xs = take (to - from) (drop from xs)

-- the joins and then the cells from these places up to those
abbrev pub parts_between : Numbering → Draft → (join cell joins cells : ℕ) → List Item
parts_between number d join cell joins cells = map (join_said number) (between join joins d.joins) ++ map (cell_said number) (between cell cells d.instances)

-- the items from a join and a cell on: each module instance comes behind the joins and then the cells that stand before it
abbrev pub items_said : Text → Numbering → Draft → (join cell : ℕ) → List DraftSub → List Item
items_said text number d join cell [] = parts_between number d join cell (length d.joins) (length d.instances)
items_said text number d join cell (s ∷ subs) = parts_between number d join cell s.joins s.cells ++ sub_said text number s ∷ items_said text number d s.joins s.cells subs

-- the module that was said: its nets are the bits of its ports in the order of the header, and then the others as they were first named
abbrev pub module_said : Text → Said → Module
module_said text m = record {
  name = m.draft.name;
  ports = ports_said 0 m.draft.ports;
  nets = names_in_order (net_order m.draft) m.draft.nets;
  items = items_said text (final_net (net_order m.draft)) m.draft 0 0 m.subs;
}

-- ---- the modules of a text

-- a rule of texts of several modules
abbrev pub ModulesRule : Type 0 → Type 0
ModulesRule A = parser.Parser Token ModulesFault A

-- what a rule of a module gives
abbrev pub in_module : {A : Type 0} → parser.Outcome Token Fault A → parser.Outcome Token ModulesFault A
in_module (Ok p) = Ok p
in_module (Err f) = Err (fault.Module f)

-- the name of the module that begins here
abbrev pub name_ahead : List Token → Text
name_ahead ts = bytes (next ts)

-- whether a name is that of a cell, or one of these
abbrev pub is_repeated : List Cell → (names : List Text) → Text → Bool
is_repeated library names word = is_some (find_cell library word) || list_any (λ name. bytes_eq name word) names

-- whether a module begins here whose name is
abbrev pub repeats : List Cell → (names : List Text) → List Token → Bool
repeats library names ts = (sees kind.Module ts && sees kind.Name (next ts)) && is_repeated library names (name_ahead ts)

-- The next module behind those with these names. Its name is tested at itself, before its header.
unfoldable pub next_module : List Cell → (names : List Text) → ModulesRule Said
next_module library names = λ ts. if repeats library names ts then Err (fault.Repeated (name_ahead ts)) else in_module (one_module library ts)

-- the modules so far, where the text ends, or else with those behind them
abbrev pub and_more : (before : List Module) → ModulesRule (List Module) → ModulesRule (List Module)
and_more before more = λ ts. if sees kind.End ts then Ok (before, ts) else more ts

-- the modules from here to the end of the text, behind those before, which have these names
unfoldable pub modules_from : ℕ → Text → List Cell → (names : List Text) → (before : List Module) → ModulesRule (List Module)
modules_from zero text library names before = λ ts. Err (fault.Module (refusal ts))
modules_from (suc n) text library names before = λ ts.
    (next_module library names >>= (λ m.
    let all = before ++ module_said text m ∷ [] in
    and_more all (modules_from n text library (names ++ name_ahead ts ∷ []) all))) ts

-- the modules of a text over the cells of a library, one at least, or the first fault
unfoldable pub modules_of : List Cell → Text → Result (List Module) ModulesFault
modules_of library text = parser.value_of (modules_from (left (tokens text)) text library [] [] (tokens text))
