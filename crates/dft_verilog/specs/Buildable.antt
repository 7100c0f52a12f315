-- Drafts of which no part is refused.
use Rattle.std.specs.Prelude.{◌≡◌, ◌≤◌, List, [], ◌∷◌, ◌++◌, length, Option, None, Some, Ok}
use Rattle.dft_base.specs.Lexing.{Text}
use Rattle.dft_cells.specs.declared.cell.Cell.{Cell}
use Rattle.dft_netlist.specs.declared.limits.TheConstants.{MAX_PORTS, MAX_NETS, MAX_INSTANCES}
use Rattle.dft_netlist_text.specs.declared.text.Declared.{Declared}
use Rattle.dft_netlist.specs.declared.instance.Instance.{Instance}
use Rattle.dft_netlist.specs.Netlist.{Netlist}
use Rattle.dft_netlist.specs.Names.{port_names}
use Rattle.dft_netlist.specs.Building.{own_names}
use Rattle.dft_netlist_text.specs.Modules.{Draft, HeaderPort}
use Rattle.dft_netlist_text.specs.NetlistText.{built, net_order, names_of_others, module_of}
use Rattle.dft_verilog_draft.specs.Free.{AreApart}

-- the printed names of a port that was declared: a vector's own, and its bits'
abbrev pub names_of_port : Text → Option Declared → List Text
names_of_port word None = []
names_of_port word (Some declared) = port_names word declared.shape.range

abbrev pub names_of_header : List HeaderPort → List Text
names_of_header [] = []
names_of_header (port ∷ ports) = names_of_port port.name port.declared ++ names_of_header ports

abbrev pub names_of_instances : List Instance → List Text
names_of_instances [] = []
names_of_instances (i ∷ is) = own_names i.name ++ names_of_instances is

-- every printed name of a draft's netlist
abbrev pub printed_names : Draft → List Text
printed_names d = names_of_header d.ports ++ (names_of_others d ++ names_of_instances d.instances)

-- the printed names differ, and the limits hold
pub record IsBuildable (d : Draft) : Type 0 where
  pub names : AreApart (printed_names d)
  pub ports : length d.ports ≤ MAX_PORTS
  pub nets : length (net_order d) ≤ MAX_NETS
  pub instances : length d.instances ≤ MAX_INSTANCES

-- then no part is refused
abbrev pub BuildableAreBuilt : Type 0
BuildableAreBuilt = (d : Draft) → IsBuildable d → (netlist : Netlist) × (built d ≡ Ok netlist)

-- what a text without a fault says is so
abbrev pub ModulesAreBuildable : Type 0
ModulesAreBuildable = (library : List Cell) (text : Text) (d : Draft) → module_of library text ≡ Ok d → IsBuildable d
