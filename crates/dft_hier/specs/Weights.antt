-- How many nets stand in and below each module, and whether anything stands there at all.
use Rattle.std.specs.Prelude.{ℕ, ◌≡◌, ◌+◌, ◌≤◌, min, nat_lt, Bool, true, false, ◌||◌, List, [], ◌∷◌, ◌++◌, length, map, drop, Option, Some, None, slice_get, slice_index_or, if◌then◌else◌}
use Rattle.std.specs.List.{All, list_any}
use Rattle.dft_netlist.specs.declared.limits.TheConstants.{MAX_NETS}
use Rattle.dft_modules.specs.declared.module.SubInstance.{SubInstance}
use Rattle.dft_modules.specs.declared.module.Item.{Item}
use Rattle.dft_modules.specs.declared.module.Item.TheVariants as item
use Rattle.dft_modules.specs.Modules.{Module}
use Rattle.dft_hier.specs.declared.weights.Weight.{Weight}
use Rattle.dft_hier.specs.declared.weights.LiveSub.{LiveSub}
use Rattle.dft_hier.specs.declared.weights.LiveItem.{LiveItem}
use Rattle.dft_hier.specs.declared.weights.LiveItem.TheVariants.{Own, Sub}
use Rattle.dft_hier.specs.Hierarchy.{sub_of}
use Rattle.dft_hier.specs.Reach.{Graph, children_at}

-- so many nets, or one more than there may be
abbrev pub at_most : ℕ → ℕ
at_most nets = min nets (MAX_NETS + 1)

abbrev pub no_weight : Weight
no_weight = record { nets = 0; lives = false }

-- a module with another below it
abbrev pub with_below : Weight → Weight → Weight
with_below weight below = record { nets = at_most (weight.nets + below.nets); lives = weight.lives || below.lives }

abbrev pub is_cell : Item → Bool
is_cell (item.Join j) = false
is_cell (item.Cell i) = true
is_cell (item.Sub s) = false

-- a module by itself
abbrev pub alone : Module → Weight
alone m = record { nets = at_most (length m.nets); lives = nat_lt 0 (length m.nets) || list_any is_cell m.items }

abbrev pub with_all : Weight → List Weight → Weight
with_all weight [] = weight
with_all weight (below ∷ more) = with_all (with_below weight below) more

abbrev pub weights_of : List Weight → List ℕ → List Weight
weights_of weights numbers = map (λ number. slice_index_or weights number no_weight) numbers

-- a module with those of its instances
abbrev pub weight_by : Module → (children : List ℕ) → List Weight → Weight
weight_by m children weights = with_all (alone m) (weights_of weights children)

-- no weight is more than one more than there may be
abbrev pub AreBounded : List Weight → Type 0
AreBounded weights = All (λ (w : Weight). w.nets ≤ MAX_NETS + 1) weights

-- each module's weight is that of the module with those of its instances
pub record AreWeights (ms : List Module) (g : Graph) (weights : List Weight) : Type 0 where
  pub count : length weights ≡ length ms
  pub each : (number : ℕ) (m : Module) → slice_get ms number ≡ Some m → slice_index_or weights number no_weight ≡ weight_by m (children_at g number) weights

-- ---- the items of a module that give something

-- the items that give something, and of these the module instances with nets in them
pub record Live : Type 0 where
  pub items : List LiveItem
  pub with_nets : List LiveSub

abbrev pub no_live : Live
no_live = record { items = []; with_nets = [] }

-- an item by its place; an instance of a module that gives nothing is left out
abbrev pub and_own : (place : ℕ) → Live → Live
and_own place live = record live { items = live.items ++ Own place ∷ [] }

abbrev pub and_sub : Weight → LiveSub → Live → Live
and_sub weight sub live = record {
  items = if weight.lives then live.items ++ Sub sub ∷ [] else live.items;
  with_nets = if nat_lt 0 weight.nets then live.with_nets ++ sub ∷ [] else live.with_nets;
}

-- an item more: one of its own, or an instance of the module of this number
abbrev pub and_item : List Weight → (place : ℕ) → (child : Option ℕ) → Live → Live
and_item weights place None live = and_own place live
and_item weights place (Some child) live = and_sub (slice_index_or weights child no_weight) (record { item = place; child = child }) live

-- the module of an item, where those of the module instances from it on are these, and the ones behind it
abbrev pub child_for : Option SubInstance → List ℕ → Option ℕ
child_for None children = None
child_for (Some s) children = slice_get children 0

abbrev pub left_by : Option SubInstance → List ℕ → List ℕ
left_by None children = children
left_by (Some s) children = drop 1 children

-- items from a place on
abbrev pub live_from : List Weight → (place : ℕ) → List Item → (children : List ℕ) → Live → Live
live_from weights place [] children live = live
live_from weights place (i ∷ items) children live = live_from weights (place + 1) items (left_by (sub_of i) children) (and_item weights place (child_for (sub_of i) children) live)

-- the items of a module whose instances are of these modules
abbrev pub live_of : List Weight → Module → (children : List ℕ) → Live
live_of weights m children = live_from weights 0 m.items children no_live

-- the items of each module
pub record AreLive (ms : List Module) (g : Graph) (weights : List Weight) (items : List Live) : Type 0 where
  pub count : length items ≡ length ms
  pub each : (number : ℕ) (m : Module) → slice_get ms number ≡ Some m → slice_index_or items number no_live ≡ live_of weights m (children_at g number)
