-- What a draft keeps: its limits, and that each net that it names is there.
use Rattle.std.specs.Prelude.{ℕ, ◌+◌, ◌≤◌, List, [], length, Option, Some, None}
use Rattle.std.specs.List.{All}
use Rattle.dft_base.specs.Lexing.{Text}
use Rattle.dft_cells.specs.declared.cell.Cell.{Cell}
use Rattle.dft_netlist_text.specs.declared.text.Shape.{Shape}
use Rattle.dft_netlist_text.specs.declared.text.Meaning.{Meaning}
use Rattle.dft_netlist_text.specs.declared.text.Meaning.TheVariants as meaning
use Rattle.dft_netlist_text.specs.declared.text.Declared.{Declared}
use Rattle.dft_netlist.specs.declared.instance.Instance.{Instance}
use Rattle.dft_netlist.specs.declared.instance.Join.{Join}
use Rattle.dft_netlist.specs.declared.limits.TheConstants.{MAX_PORTS, MAX_NETS, MAX_INSTANCES}
use Rattle.dft_netlist.specs.Netlist.{Netlist}
use Rattle.dft_netlist.specs.Sound.{IsInstanceOf, IsJoinOf}
use Rattle.dft_netlist_text.specs.Modules.{Draft, HeaderPort, TakenName, net_count}

-- the nets of a name are among the first `count`
abbrev pub IsShapeWithin : (count : ℕ) → Shape → Type 0
IsShapeWithin count shape = shape.first.0 + net_count shape.range ≤ count

-- the nets that a name stands for are
abbrev pub IsMeaningWithin : (count : ℕ) → Meaning → Type 0
IsMeaningWithin count (meaning.Nets shape) = IsShapeWithin count shape
IsMeaningWithin count (meaning.Port place) = Unit {0}
IsMeaningWithin count meaning.Bit = Unit {0}
IsMeaningWithin count meaning.Instance = Unit {0}

-- the nets of all these names are
abbrev pub AreNamesWithin : (count : ℕ) → List TakenName → Type 0
AreNamesWithin count names = All (λ (e : TakenName). IsMeaningWithin count e.meaning) names

-- the nets of a port that was declared are
abbrev pub IsDeclaredWithin : (count : ℕ) → Option Declared → Type 0
IsDeclaredWithin count None = Unit {0}
IsDeclaredWithin count (Some declared) = IsShapeWithin count declared.shape

-- a netlist of these nets alone, in which instances and joins are to stand
abbrev pub netlist_of_nets : Text → List Cell → (nets : List Text) → Netlist
netlist_of_nets name library nets = record { name = name; library = library; ports = []; nets = nets; instances = []; joins = [] }

-- an instance has a cell and as many pins as the cell, on nets that are there, and no constant at an output
abbrev pub InstanceFits : Netlist → Instance → Type 0
InstanceFits n i = IsInstanceOf n i.name i.cell i.pins

abbrev pub JoinFits : Netlist → Join → Type 0
JoinFits n j = IsJoinOf n j.target j.source

-- the nets of a draft, among which its instances and joins stand
abbrev pub nets_alone : Draft → Netlist
nets_alone d = netlist_of_nets d.name d.library d.nets

-- what each draft keeps
pub record IsDraft (d : Draft) : Type 0 where
  pub few_ports : length d.ports ≤ MAX_PORTS
  pub few_nets : length d.nets ≤ MAX_NETS
  pub few_instances : length d.instances ≤ MAX_INSTANCES
  pub names : AreNamesWithin (length d.nets) d.names
  pub ports : All (λ (p : HeaderPort). IsDeclaredWithin (length d.nets) p.declared) d.ports
  pub instances : All (InstanceFits (nets_alone d)) d.instances
  pub joins : All (JoinFits (nets_alone d)) d.joins
