-- The joins and instances of a flat design by the items of modules that give something.
use Rattle.std.specs.Prelude.{ℕ, suc, zero, ◌≡◌, ◌+◌, ◌≤◌, List, [], ◌∷◌, ◌++◌, length, map, Option, Some, None, slice_get, slice_index_or}
use Rattle.dft_base.specs.Lexing.{Text}
use Rattle.dft_netlist.specs.declared.limits.TheConstants.{MAX_NETS}
use Rattle.dft_modules.specs.declared.module.Item.{Item}
use Rattle.dft_modules.specs.declared.module.Item.TheVariants as item
use Rattle.dft_modules.specs.Modules.{Module}
use Rattle.dft_hier.specs.declared.weights.Weight.{Weight}
use Rattle.dft_hier.specs.declared.weights.LiveItem.{LiveItem}
use Rattle.dft_hier.specs.declared.weights.LiveItem.TheVariants.{Own, Sub}
use Rattle.dft_hier.specs.Flat.{Parts, Giving, no_parts, and_parts, moved_join, moved_instance, parts_within, sub_parts}
use Rattle.dft_hier.specs.FlatNets.{total_by, nets_in, items_at}
use Rattle.dft_hier.specs.Weights.{Live, no_live, no_weight}

-- what an item of a module's own gives
abbrev pub own_parts : (prefix : Text) → (first : ℕ) → Option Item → Parts
own_parts prefix first None = no_parts
own_parts prefix first (Some (item.Join j)) = record { nets = []; joins = moved_join first j ∷ []; instances = [] }
own_parts prefix first (Some (item.Cell i)) = record { nets = []; joins = []; instances = moved_instance prefix first i ∷ [] }
own_parts prefix first (Some (item.Sub s)) = no_parts

-- what the module instance that an item is gives
abbrev pub named_parts : Giving → (prefix : Text) → (outside first : ℕ) → Option Item → Option Module → Parts
named_parts give prefix outside first None o = no_parts
named_parts give prefix outside first (Some (item.Join j)) o = no_parts
named_parts give prefix outside first (Some (item.Cell i)) o = no_parts
named_parts give prefix outside first (Some (item.Sub s)) o = sub_parts give prefix outside first s o

-- how many nets a live item gives
abbrev pub nets_of : List Weight → LiveItem → ℕ
nets_of weights (Own place) = 0
nets_of weights (Sub l) = (slice_index_or weights l.child no_weight).nets

-- what live items give, where the nets of the next module instance are numbered from `next` on
abbrev pub live_parts : Giving → List Module → List Weight → (prefix : Text) → (first next : ℕ) → List Item → List LiveItem → Parts
live_parts give ms weights prefix first next items [] = no_parts
live_parts give ms weights prefix first next items (Own place ∷ live) = and_parts (own_parts prefix first (slice_get items place)) (live_parts give ms weights prefix first next items live)
live_parts give ms weights prefix first next items (Sub l ∷ live) =
    and_parts (named_parts give prefix first next (slice_get items l.item) (slice_get ms l.child)) (live_parts give ms weights prefix first (next + nets_of weights (Sub l)) items live)

-- the live items of a module, by its number
abbrev pub live_items_at : List Live → (number : ℕ) → List LiveItem
live_items_at items number = (slice_index_or items number no_live).items

-- how many nets a module has with all below it
abbrev pub net_total : List Module → Module → ℕ
net_total ms m = length (nets_in (length ms) ms [] m)

-- a module gives its own nets, and then what its live items give, where all its nets can be numbered
abbrev pub GivesParts : List Module → List Live → List Weight → (number : ℕ) → Module → Type 0
GivesParts ms items weights number m = (prefix : Text) (first : ℕ) → net_total ms m ≤ MAX_NETS →
    parts_within (length ms) ms prefix first m ≡
    and_parts (record { nets = map (λ name. prefix ++ name) m.nets; joins = []; instances = [] }) (live_parts (parts_within (length ms) ms) ms weights prefix first (first + length m.nets) (items_at ms number) (live_items_at items number))

-- so many steps a walk through live items takes, where it goes so deep at most
abbrev pub step_of : (ℕ → ℕ) → LiveItem → ℕ
step_of size (Own place) = 1
step_of size (Sub l) = suc (size l.child)

abbrev pub item_size_in : (depth : ℕ) → List Live → (number : ℕ) → ℕ
item_size_in zero items number = 0
item_size_in (suc depth) items number = suc (total_by (step_of (item_size_in depth items)) (live_items_at items number))
