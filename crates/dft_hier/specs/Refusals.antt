-- Why modules have no flat design, in the order of the tests. Each is the first in the order of the text.
use Rattle.std.specs.Prelude.{◌≡◌, ◌≢◌, ℕ, Bool, true, false, not, ◌&&◌, ◌||◌, ◌==◌, List, [], ◌∷◌, ◌++◌, length, find, Option, Some, None, option_map, is_some, Ok, Err}
use Rattle.std.specs.List.{list_any, All}
use Rattle.std.specs.Option.{option_or}
use Rattle.std.specs.Str.{bytes_eq}
use Rattle.dft_base.specs.Lexing.{Text}
use Rattle.dft_base.specs.declared.dir.Dir.{Dir}
use Rattle.dft_base.specs.declared.dir.Dir.TheVariants as dir
use Rattle.dft_base.specs.declared.place.Place.{Place}
use Rattle.dft_cells.specs.declared.cell.Cell.{Cell}
use Rattle.dft_netlist.specs.declared.port.Port.{Port}
use Rattle.dft_netlist.specs.declared.instance.Signal.{Signal}
use Rattle.dft_netlist.specs.declared.instance.Signal.TheVariants as signal
use Rattle.dft_netlist.specs.declared.error.NetlistError.{NetlistError}
use Rattle.dft_netlist.specs.declared.error.NetlistError.TheVariants as netlist
use Rattle.dft_netlist.specs.Netlist.{Netlist}
use Rattle.dft_netlist.specs.Finishing.{IsFinished, CannotFinish}
use Rattle.dft_modules.specs.declared.connections.Connection.{Connection}
use Rattle.dft_modules.specs.declared.module.SubInstance.{SubInstance}
use Rattle.dft_modules.specs.Modules.{Module}
use Rattle.dft_hier.specs.declared.error.HierError.{HierError}
use Rattle.dft_hier.specs.declared.error.HierError.TheVariants as told
use Rattle.dft_hier.specs.Hierarchy.{all_subs, find_module, has_instance_of, tops}
use Rattle.dft_hier.specs.Flat.{flat_netlist}

-- ---- instances of modules that are not there

-- the first instance whose module is not there
abbrev pub first_unknown : List Module → Option SubInstance
first_unknown ms = find (λ (s : SubInstance). not (is_some (find_module ms s.of))) (all_subs ms)

-- ---- modules in themselves

-- a module stands below another, by their names, where a list of instances leads down to it
pub data IsBelow (ms : List Module) : (above below : Text) → Type 0 where
  Within : {above below : Text} {m : Module} → find_module ms above ≡ Some m → has_instance_of m below ≡ true → IsBelow ms above below
  Deeper : {above between below : Text} {m : Module} → find_module ms above ≡ Some m → has_instance_of m between ≡ true → IsBelow ms between below → IsBelow ms above below

-- none of these modules stands below itself
abbrev pub NoneInItself : List Module → List Module → Type 0
NoneInItself ms some = All (λ (m : Module). IsBelow ms m.name m.name → ⊥) some

-- the first module that stands below itself has this name
pub record IsFirstInItself (ms : List Module) (name : Text) : Type 0 where
  pub front : List Module
  pub m : Module
  pub back : List Module
  pub split : ms ≡ front ++ m ∷ back
  pub named : m.name ≡ name
  pub below : IsBelow ms m.name m.name
  pub first : NoneInItself ms front

-- the first module that stands below itself is told by its name
abbrev pub TellsFirst : List Module → HierError → Type 0
TellsFirst ms (told.H3 name) = IsFirstInItself ms name
TellsFirst ms (told.Memory error) = Unit {0}
TellsFirst ms _ = ⊥

-- ---- connections that fit no port

abbrev pub is_constant : Signal → Bool
is_constant (signal.Constant bit) = true
is_constant (signal.Net net) = false
is_constant signal.Unconnected = false

-- whether a port of this direction would drive a constant
abbrev pub drives_constant : Dir → List Signal → Bool
drives_constant dir.Input signals = false
drives_constant dir.Output signals = list_any is_constant signals

-- whether signals are none, or as many as the bits of a port
abbrev pub has_width : Port → List Signal → Bool
has_width p signals = length signals == 0 || length signals == length p.bits

-- whether a port may be joined to these signals; a module that has no port of the name has none that may
abbrev pub fits_port : Option Port → List Signal → Bool
fits_port None signals = false
fits_port (Some p) signals = has_width p signals && not (drives_constant p.dir signals)

abbrev pub ports_of : Option Module → List Port
ports_of None = []
ports_of (Some m) = m.ports

-- whether a connection fits a port of its module
abbrev pub fits : List Port → Connection → Bool
fits ports c = fits_port (find (λ (p : Port). bytes_eq p.name c.port) ports) c.signals

-- the first connection of these instances that fits no port
abbrev pub first_misfit : List Module → List SubInstance → Option Connection
first_misfit ms [] = None
first_misfit ms (s ∷ ss) = option_or (find (λ c. not (fits (ports_of (find_module ms s.of)) c)) s.connections) (first_misfit ms ss)

-- ---- the flat design, and why there is none

-- every module instance is of a module that is there, no module stands below itself, and one module is the top
pub record IsHierarchy (ms : List Module) (top : Module) : Type 0 where
  pub known : first_unknown ms ≡ None
  pub apart : NoneInItself ms ms
  pub one : tops ms ≡ top ∷ []

-- and each connection fits a port of its module
pub record IsJoinable (ms : List Module) (top : Module) : Type 0 where
  pub hierarchy : IsHierarchy ms top
  pub fitting : first_misfit ms (all_subs ms) ≡ None

-- the flat netlist is built, no net has two drivers, and the nets have an order
pub record IsFlat (ms : List Module) (library : List Cell) (design : Netlist) : Type 0 where
  pub top : Module
  pub joinable : IsJoinable ms top
  pub grown : Netlist
  pub parts : flat_netlist ms library top ≡ Ok grown
  pub finished : IsFinished grown design

-- a part of the flat netlist is refused, or it cannot be finished
pub data IsFlatRefused (ms : List Module) (library : List Cell) (why : NetlistError) : Type 0 where
  Part : {top : Module} → IsJoinable ms top → flat_netlist ms library top ≡ Err why → IsFlatRefused ms library why
  Whole : {top : Module} {grown : Netlist} → IsJoinable ms top → flat_netlist ms library top ≡ Ok grown → CannotFinish grown why → IsFlatRefused ms library why

-- the number of tops is this one, and not 1
pub record AreTops (ms : List Module) (count : ℕ) : Type 0 where
  pub known : first_unknown ms ≡ None
  pub apart : NoneInItself ms ms
  pub is : count ≡ length (tops ms)
  pub other : count ≢ 1

-- this is the first connection that fits no port
pub record IsMisfit (ms : List Module) (place : Place) (name : Text) : Type 0 where
  pub top : Module
  pub hierarchy : IsHierarchy ms top
  pub connection : Connection
  pub first : first_misfit ms (all_subs ms) ≡ Some connection
  pub at : place ≡ connection.place
  pub named : name ≡ connection.port

-- Why there is no flat design. Nothing is said where memory runs out.
abbrev pub CannotFlatten : List Module → List Cell → HierError → Type 0
CannotFlatten ms library (told.H2 name) = option_map (λ (s : SubInstance). s.of) (first_unknown ms) ≡ Some name
CannotFlatten ms library (told.H3 name) = (first_unknown ms ≡ None) × IsFirstInItself ms name
CannotFlatten ms library (told.H4 count) = AreTops ms count
CannotFlatten ms library (told.H5 place name) = IsMisfit ms place name
CannotFlatten ms library (told.Netlist (netlist.Memory error)) = ⊥
CannotFlatten ms library (told.Netlist (netlist.MultipleDrivers net)) = IsFlatRefused ms library (netlist.MultipleDrivers net)
CannotFlatten ms library (told.Netlist (netlist.Loop net)) = IsFlatRefused ms library (netlist.Loop net)
CannotFlatten ms library (told.Netlist (netlist.DuplicateName name)) = IsFlatRefused ms library (netlist.DuplicateName name)
CannotFlatten ms library (told.Netlist (netlist.TooMany what limit)) = IsFlatRefused ms library (netlist.TooMany what limit)
CannotFlatten ms library (told.Memory error) = Unit {0}
