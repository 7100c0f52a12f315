-- Which modules a text has, and which have instances of which.
use Rattle.std.specs.Prelude.{◌≡◌, ℕ, Bool, not, List, [], ◌∷◌, ◌++◌, find, filter, Option, Some, None, slice_get}
use Rattle.std.specs.List.{list_any, filter_map}
use Rattle.std.specs.Str.{bytes_eq}
use Rattle.dft_base.specs.Lexing.{Text}
use Rattle.dft_netlist.specs.declared.instance.Instance.{Instance}
use Rattle.dft_netlist.specs.declared.instance.Join.{Join}
use Rattle.dft_modules.specs.declared.module.SubInstance.{SubInstance}
use Rattle.dft_modules.specs.declared.module.Item.{Item}
use Rattle.dft_modules.specs.declared.module.Item.TheVariants as item
use Rattle.dft_modules.specs.Modules.{Module}

-- ---- the items of a module

abbrev pub join_of : Item → Option Join
join_of (item.Join j) = Some j
join_of (item.Cell i) = None
join_of (item.Sub s) = None

abbrev pub cell_of : Item → Option Instance
cell_of (item.Join j) = None
cell_of (item.Cell i) = Some i
cell_of (item.Sub s) = None

abbrev pub sub_of : Item → Option SubInstance
sub_of (item.Join j) = None
sub_of (item.Cell i) = None
sub_of (item.Sub s) = Some s

-- the joins, the instances of cells and gates, and the module instances among items
abbrev pub joins_of : List Item → List Join
joins_of items = filter_map join_of items

abbrev pub cells_of : List Item → List Instance
cells_of items = filter_map cell_of items

abbrev pub subs_of : List Item → List SubInstance
subs_of items = filter_map sub_of items

-- ---- the modules of a text

-- the module of a name
abbrev pub find_module : List Module → Text → Option Module
find_module ms name = find (λ (m : Module). bytes_eq m.name name) ms

-- the module instances of a text, in its order
abbrev pub all_subs : List Module → List SubInstance
all_subs [] = []
all_subs (m ∷ ms) = subs_of m.items ++ all_subs ms

-- whether a module has an instance of another, by its name
abbrev pub has_instance_of : Module → Text → Bool
has_instance_of m name = list_any (λ (s : SubInstance). bytes_eq s.of name) (subs_of m.items)

-- the modules that no module has an instance of
abbrev pub tops : List Module → List Module
tops ms = filter (λ (m : Module). not (list_any (λ other. has_instance_of other m.name) ms)) ms

-- no two modules have the same name
abbrev pub HaveOwnNames : List Module → Type 0
HaveOwnNames ms = (a b : ℕ) (m other : Module) → slice_get ms a ≡ Some m → slice_get ms b ≡ Some other → m.name ≡ other.name → a ≡ b
