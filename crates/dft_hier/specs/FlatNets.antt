-- The nets of a flat design by themselves, and by the items of modules that have nets in them.
use Rattle.std.specs.Prelude.{ℕ, zero, suc, ◌≡◌, ◌+◌, ◌<◌, length, List, [], ◌∷◌, ◌++◌, map, Option, Some, None, slice_get, slice_index_or}
use Rattle.dft_base.specs.Lexing.{Text}
use Rattle.dft_modules.specs.declared.module.SubInstance.{SubInstance}
use Rattle.dft_modules.specs.declared.module.Item.{Item}
use Rattle.dft_modules.specs.declared.module.Item.TheVariants as item
use Rattle.dft_modules.specs.Modules.{Module}
use Rattle.dft_hier.specs.declared.weights.LiveSub.{LiveSub}
use Rattle.dft_hier.specs.Hierarchy.{subs_of, find_module}
use Rattle.dft_hier.specs.Flat.{inside}
use Rattle.dft_hier.specs.Weights.{Live, no_live}

-- the sum of what a function gives of each
abbrev pub total_by : {X : Type 0} → (X → ℕ) → List X → ℕ
total_by f [] = 0
total_by f (x ∷ xs) = f x + total_by f xs

-- ---- nets alone

-- the nets of a module and all below it, for a prefix of its names
abbrev pub NetsGiving : Type 0
NetsGiving = (prefix : Text) → Module → List Text

abbrev pub sub_nets : NetsGiving → (prefix : Text) → SubInstance → Option Module → List Text
sub_nets give prefix s None = []
sub_nets give prefix s (Some m) = give (inside prefix s.name) m

abbrev pub subs_nets : NetsGiving → List Module → (prefix : Text) → List SubInstance → List Text
subs_nets give ms prefix [] = []
subs_nets give ms prefix (s ∷ subs) = sub_nets give prefix s (find_module ms s.of) ++ subs_nets give ms prefix subs

-- the nets of a module, and then those below it, so many modules deep at most
abbrev pub nets_in : (depth : ℕ) → List Module → NetsGiving
nets_in zero ms prefix m = []
nets_in (suc depth) ms prefix m = map (λ name. prefix ++ name) m.nets ++ subs_nets (nets_in depth ms) ms prefix (subs_of m.items)

-- ---- by the instances with nets in them

-- the nets of the module instance that an item is
abbrev pub named_nets : NetsGiving → (prefix : Text) → Option Item → Option Module → List Text
named_nets give prefix None o = []
named_nets give prefix (Some (item.Join j)) o = []
named_nets give prefix (Some (item.Cell i)) o = []
named_nets give prefix (Some (item.Sub s)) o = sub_nets give prefix s o

abbrev pub live_nets : NetsGiving → List Module → (prefix : Text) → List Item → List LiveSub → List Text
live_nets give ms prefix items [] = []
live_nets give ms prefix items (l ∷ live) = named_nets give prefix (slice_get items l.item) (slice_get ms l.child) ++ live_nets give ms prefix items live

-- the items of a module, by its number
abbrev pub items_in : Option Module → List Item
items_in None = []
items_in (Some m) = m.items

abbrev pub items_at : List Module → (number : ℕ) → List Item
items_at ms number = items_in (slice_get ms number)

-- the instances with nets in them of a module, by its number
abbrev pub live_at : List Live → (number : ℕ) → List LiveSub
live_at items number = (slice_index_or items number no_live).with_nets

-- the nets of all live instances below a module, by its number
abbrev pub nets_below : List Module → List Live → (number : ℕ) → List Text
nets_below ms items number = live_nets (nets_in (length ms) ms) ms [] (items_at ms number) (live_at items number)

-- ---- modules that are laid out for a walk through their nets

-- a live instance is a module instance at its place, of the module of its number
pub record IsSubAt (ms : List Module) (number : ℕ) (l : LiveSub) : Type 0 where
  pub sub : SubInstance
  pub item_at : slice_get (items_at ms number) l.item ≡ Some (item.Sub sub)
  pub below : Module
  pub below_at : slice_get ms l.child ≡ Some below
  pub found : find_module ms sub.of ≡ Some below

-- a module gives its own nets, and then those of its live instances
abbrev pub GivesLive : List Module → List Live → (number : ℕ) → Module → Type 0
GivesLive ms items number m = (prefix : Text) → nets_in (length ms) ms prefix m ≡ map (λ name. prefix ++ name) m.nets ++ live_nets (nets_in (length ms) ms) ms prefix (items_at ms number) (live_at items number)

-- so many steps a walk from a module takes, where it goes so deep at most
abbrev pub size_in : (depth : ℕ) → List Live → (number : ℕ) → ℕ
size_in zero items number = 0
size_in (suc depth) items number = suc (total_by (λ (l : LiveSub). suc (size_in depth items l.child)) (live_at items number))

pub record IsNetLaid (ms : List Module) (items : List Live) : Type 0 where
  pub count : length items ≡ length ms
  pub subs : (number place : ℕ) (l : LiveSub) → slice_get (live_at items number) place ≡ Some l → IsSubAt ms number l
  pub gives : (number : ℕ) (m : Module) → slice_get ms number ≡ Some m → GivesLive ms items number m
  -- no walk goes deeper than there are modules
  pub steps : (number : ℕ) → number < length ms → size_in (length ms) items number ≡ size_in (suc (length ms)) items number
