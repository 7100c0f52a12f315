-- Laws of flat designs.
use Rattle.std.specs.Prelude.{◌≡◌, None, Ok, ℕ, ◌<◌, List, length, Some, slice_get}
use Rattle.dft_base.specs.Lexing.{Text}
use Rattle.dft_cells.specs.declared.cell.Cell.{Cell}
use Rattle.dft_netlist.specs.declared.instance.Instance.{Instance}
use Rattle.dft_netlist.specs.Netlist.{Netlist}
use Rattle.dft_cells.specs.Cells.{find_cell}
use Rattle.dft_netlist_text.specs.NetlistText.{StandsFor}
use Rattle.dft_modules.specs.Modules.{Module}
use Rattle.dft_modules.specs.ModuleTexts.{modules_of}
use Rattle.dft_modules.specs.Sound.{AreModules}
use Rattle.dft_hier.specs.Hierarchy.{cells_of}
use Rattle.dft_hier.specs.Paths.{Path, Spot, module_at, net_spots, instance_spots}
use Rattle.dft_hier.specs.Refusals.{IsFlat}

-- ---- instances, one for one

-- the instance at a spot, and the one of this number of the flat design, are of one cell
pub record IsInstanceAt (ms : List Module) (top : Module) (spot : Spot) (i : Instance) : Type 0 where
  pub m : Module
  pub at : module_at ms spot.path top ≡ Some m
  pub there : Instance
  pub there_at : slice_get (cells_of m.items) spot.at ≡ Some there
  pub cell : i.cell ≡ there.cell

-- the instances of the flat design are those of cells and gates at all paths, one for one and in order, with their cells
pub record InstancesAreOne (ms : List Module) (top : Module) (design : Netlist) : Type 0 where
  pub count : length design.instances ≡ length (instance_spots ms top)
  pub each : (number : ℕ) (spot : Spot) (i : Instance) → slice_get (instance_spots ms top) number ≡ Some spot → slice_get design.instances number ≡ Some i → IsInstanceAt ms top spot i
  pub once : (a b : ℕ) (spot : Spot) → slice_get (instance_spots ms top) a ≡ Some spot → slice_get (instance_spots ms top) b ≡ Some spot → a ≡ b
  pub all : (path : Path) (m : Module) (at : ℕ) → module_at ms path top ≡ Some m → at < length (cells_of m.items) →
      (number : ℕ) × (slice_get (instance_spots ms top) number ≡ Some (record { path = path; at = at }))

-- and its nets are those at all paths
pub record NetsAreOne (ms : List Module) (top : Module) (design : Netlist) : Type 0 where
  pub count : length design.nets ≡ length (net_spots ms top)
  pub once : (a b : ℕ) (spot : Spot) → slice_get (net_spots ms top) a ≡ Some spot → slice_get (net_spots ms top) b ≡ Some spot → a ≡ b
  pub all : (path : Path) (m : Module) (at : ℕ) → module_at ms path top ≡ Some m → at < length m.nets →
      (number : ℕ) × (slice_get (net_spots ms top) number ≡ Some (record { path = path; at = at }))

abbrev pub FlatIsOneForOne : Type 0
FlatIsOneForOne =
    (ms : List Module) (library : List Cell) (design : Netlist) → AreModules library ms → (flat : IsFlat ms library design) → InstancesAreOne ms flat.top design × NetsAreOne ms flat.top design

-- ---- texts, and texts of one module

-- a text stands for this design: its modules, flattened
pub record Gives (library : List Cell) (text : Text) (design : Netlist) : Type 0 where
  pub modules : List Module
  pub said : modules_of library text ≡ Ok modules
  pub flat : IsFlat modules library design

-- a text of one module that has no cell's name stands for the design that it stands for alone
abbrev pub OneModuleGives : Type 0
OneModuleGives = (library : List Cell) (text : Text) (design : Netlist) → StandsFor library text design → find_cell library design.name ≡ None → Gives library text design

-- the design is over these cells, and its name is none of theirs
pub record IsOver (library : List Cell) (design : Netlist) : Type 0 where
  pub cells : design.library ≡ library
  pub named : find_cell library design.name ≡ None

-- what a text stands for is over the cells that it was read over, and has the name of none of them
abbrev pub GivenAreOver : Type 0
GivenAreOver = (library : List Cell) (text : Text) (design : Netlist) → Gives library text design → IsOver library design

-- a text stands for one design at most
abbrev pub GivesOne : Type 0
GivesOne = (library : List Cell) (text : Text) (a b : Netlist) → Gives library text a → Gives library text b → a ≡ b
