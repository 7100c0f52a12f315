-- Modules that are laid out to be flattened, and their top.
use Rattle.std.specs.Prelude.{ℕ, ◌≡◌, List, [], Option, Some, None, Ok, slice_get}
use Rattle.dft_base.specs.Lexing.{Text}
use Rattle.dft_cells.specs.declared.cell.Cell.{Cell}
use Rattle.dft_netlist.specs.declared.error.NetlistError.{NetlistError}
use Rattle.dft_netlist.specs.declared.error.NetlistError.TheVariants as netlist
use Rattle.dft_netlist.specs.Netlist.{Netlist}
use Rattle.dft_netlist_text.specs.NetlistText.{Grown}
use Rattle.dft_modules.specs.Modules.{Module}
use Rattle.dft_modules.specs.Sound.{AreModules}
use Rattle.dft_hier.specs.declared.error.HierError.{HierError}
use Rattle.dft_hier.specs.declared.error.HierError.TheVariants as told
use Rattle.dft_hier.specs.declared.flat_nets.Hierarchy.{Hierarchy}
use Rattle.dft_hier.specs.declared.weights.Weight.{Weight}
use Rattle.dft_hier.specs.Flat.{Parts, no_parts, flat_parts, flat_netlist}
use Rattle.dft_hier.specs.Numbers.{children_of}
use Rattle.dft_hier.specs.Reach.{NoCircle}
use Rattle.dft_hier.specs.Refusals.{IsJoinable, first_misfit, first_unknown}
use Rattle.dft_hier.specs.Hierarchy.{all_subs}
use Rattle.dft_hier.specs.Weights.{AreLive, AreWeights, Live}

-- the module of this number is the top of a hierarchy that can be joined
pub record IsTopOf (ms : List Module) (number : ℕ) : Type 0 where
  pub top : Module
  pub at : slice_get ms number ≡ Some top
  pub joinable : IsJoinable ms top

-- the flat netlist of modules that can be joined, not finished yet
pub record IsFlatNetlist (ms : List Module) (library : List Cell) (grown : Netlist) : Type 0 where
  pub top : Module
  pub joinable : IsJoinable ms top
  pub parts : flat_netlist ms library top ≡ Ok grown

-- sound modules that can be joined, with their weights and live items
pub record IsLaidOut (library : List Cell) (ms : List Module) (all_weights : List Weight) (all_items : List Live) : Type 0 where
  pub sound : AreModules library ms
  pub known : first_unknown ms ≡ None
  pub apart : NoCircle (children_of ms)
  pub fitting : first_misfit ms (all_subs ms) ≡ None
  pub weights : AreWeights ms (children_of ms) all_weights
  pub items : AreLive ms (children_of ms) all_weights all_items

abbrev pub IsLaid : (library : List Cell) → Hierarchy → Type 0
IsLaid library h = IsLaidOut library h.modules.now h.weights.now h.items.now

-- the name of a module, and the flat netlist where it is the top, by its number
abbrev pub name_in : Option Module → Text
name_in None = []
name_in (Some m) = m.name

abbrev pub name_at : List Module → (number : ℕ) → Text
name_at ms number = name_in (slice_get ms number)

abbrev pub flat_in : List Module → List Cell → Option Module → Grown
flat_in ms library None = Ok (record { name = []; library = library; ports = []; nets = []; instances = []; joins = [] })
flat_in ms library (Some m) = flat_netlist ms library m

abbrev pub flat_at : List Module → List Cell → (number : ℕ) → Grown
flat_at ms library number = flat_in ms library (slice_get ms number)

-- what a module and all below it give where it is the top, by its number
abbrev pub parts_in : List Module → Option Module → Parts
parts_in ms None = no_parts
parts_in ms (Some m) = flat_parts ms m

abbrev pub parts_at : List Module → (number : ℕ) → Parts
parts_at ms number = parts_in ms (slice_get ms number)

-- how a refusal of the flat netlist is told
abbrev pub told_of : NetlistError → HierError
told_of (netlist.Memory error) = told.Memory error
told_of (netlist.MultipleDrivers net) = told.Netlist (netlist.MultipleDrivers net)
told_of (netlist.Loop net) = told.Netlist (netlist.Loop net)
told_of (netlist.DuplicateName name) = told.Netlist (netlist.DuplicateName name)
told_of (netlist.TooMany what limit) = told.Netlist (netlist.TooMany what limit)
