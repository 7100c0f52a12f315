-- Where the nets and instances of a flat design stand in its modules.
use Rattle.std.specs.Prelude.{ℕ, zero, suc, List, [], ◌∷◌, ◌++◌, length, map, Option, Some, None, option_and_then, slice_get}
use Rattle.dft_base.specs.Ranges.{going_up}
use Rattle.dft_modules.specs.declared.module.SubInstance.{SubInstance}
use Rattle.dft_modules.specs.declared.module.Item.{Item}
use Rattle.dft_modules.specs.declared.module.Item.TheVariants as item
use Rattle.dft_modules.specs.Modules.{Module}
use Rattle.dft_hier.specs.Hierarchy.{subs_of, find_module}

-- a path from the top: at each module, the place of the next instance among its module instances
abbrev pub Path : Type 0
Path = List ℕ

-- a net or an instance of the module at a path, by its number there
pub record Spot : Type 0 where
  pub path : Path
  pub at : ℕ

-- the module of an instance
abbrev pub module_of : List Module → Option SubInstance → Option Module
module_of ms None = None
module_of ms (Some s) = find_module ms s.of

-- the module at a path from this one
abbrev pub module_at : List Module → Path → (from : Module) → Option Module
module_at ms [] m = Some m
module_at ms (place ∷ path) m = option_and_then (module_at ms path) (module_of ms (slice_get (subs_of m.items) place))

-- the path of a module instance of the module at a path
abbrev pub below : Path → (place : ℕ) → Path
below path place = path ++ place ∷ []

-- ---- all spots, in the order of the flat design

-- so many spots of one module
abbrev pub own_spots : Path → (count : ℕ) → List Spot
own_spots path count = map (λ number. record { path = path; at = number }) (going_up 0 count)

-- the spots at and below a module at a path
abbrev pub Finding : Type 0
Finding = Path → Module → List Spot

abbrev pub sub_spots : Finding → Path → Option Module → List Spot
sub_spots find path None = []
sub_spots find path (Some m) = find path m

-- the spots below module instances, from this place on
abbrev pub subs_spots : Finding → List Module → Path → (place : ℕ) → List SubInstance → List Spot
subs_spots find ms path place [] = []
subs_spots find ms path place (s ∷ ss) = sub_spots find (below path place) (find_module ms s.of) ++ subs_spots find ms path (suc place) ss

-- the nets of a module, and then those of its module instances
abbrev pub net_spots_within : (depth : ℕ) → List Module → Finding
net_spots_within zero ms path m = []
net_spots_within (suc depth) ms path m = own_spots path (length m.nets) ++ subs_spots (net_spots_within depth ms) ms path 0 (subs_of m.items)

-- the instances of cells and gates among items, from the one with this number and the module instance at this place on
abbrev pub item_spots : Finding → List Module → Path → (cell place : ℕ) → List Item → List Spot
item_spots find ms path cell place [] = []
item_spots find ms path cell place (item.Join j ∷ items) = item_spots find ms path cell place items
item_spots find ms path cell place (item.Cell i ∷ items) = record { path = path; at = cell } ∷ item_spots find ms path (suc cell) place items
item_spots find ms path cell place (item.Sub s ∷ items) = sub_spots find (below path place) (find_module ms s.of) ++ item_spots find ms path cell (suc place) items

abbrev pub instance_spots_within : (depth : ℕ) → List Module → Finding
instance_spots_within zero ms path m = []
instance_spots_within (suc depth) ms path m = item_spots (instance_spots_within depth ms) ms path 0 0 m.items

-- where each net of the flat design stands, by its number, and where each instance
abbrev pub net_spots : List Module → (top : Module) → List Spot
net_spots ms top = net_spots_within (length ms) ms [] top

abbrev pub instance_spots : List Module → (top : Module) → List Spot
instance_spots ms top = instance_spots_within (length ms) ms [] top
