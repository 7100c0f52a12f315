-- A walk through the items below a module: the way down to the items that come next, and the prefix of the last module on it.
use Rattle.std.specs.Prelude.{ℕ, suc, ◌≡◌, ◌+◌, ◌≤◌, List, [], ◌∷◌, ◌++◌, length, take, drop, reverse, Some, slice_get}
use Rattle.dft_base.specs.Lexing.{Text}
use Rattle.dft_cells.specs.declared.cell.Cell.{Cell}
use Rattle.dft_netlist.specs.Netlist.{Netlist}
use Rattle.dft_netlist.specs.declared.limits.TheConstants.{MAX_NETS}
use Rattle.dft_netlist_text.specs.NetlistText.{Grown}
use Rattle.dft_modules.specs.Modules.{Module}
use Rattle.dft_modules.specs.declared.module.Item.{Item}
use Rattle.dft_modules.specs.Sound.{IsItem}
use Rattle.dft_hier.specs.declared.flat_items.Visit.{Visit}
use Rattle.dft_hier.specs.declared.weights.Weight.{Weight}
use Rattle.dft_hier.specs.Flat.{Parts, no_parts, and_parts, add_instances, inside, parts_within}
use Rattle.dft_hier.specs.FlatItems.{live_parts, nets_of, live_items_at, item_size_in, step_of}
use Rattle.dft_hier.specs.FlatNets.{items_at, total_by}
use Rattle.dft_hier.specs.Growing.{IsPrefix}
use Rattle.dft_hier.specs.Moving.{with_joins}
use Rattle.dft_hier.specs.Weights.{Live}

-- the way has its last module last
pub record ItemStand : Type 0 where
  pub way : List Visit
  pub prefix : Text

-- from the top, with so many nets of its own
abbrev pub at_top : (number nets : ℕ) → ItemStand
at_top number nets = record { way = record { number = number; first = 0; item = 0; next = nets; prefix = 0 } ∷ []; prefix = [] }

-- a visit past an item with so many nets, past one of the module's own, and one of an instance's module, which has so many nets of its own
abbrev pub passed_by : Visit → (below : ℕ) → Visit
passed_by v below = record { number = v.number; first = v.first; item = v.item + 1; next = v.next + below; prefix = v.prefix }

abbrev pub passed_own : Visit → Visit
passed_own v = record { number = v.number; first = v.first; item = v.item + 1; next = v.next; prefix = v.prefix }

abbrev pub visit_at : (child first nets prefix : ℕ) → Visit
visit_at child first nets prefix = record { number = child; first = first; item = 0; next = first + nets; prefix = prefix }

-- the way goes on with a visit
abbrev pub and_visit : ItemStand → Visit → ItemStand
and_visit s v = record s { way = s.way ++ v ∷ [] }

-- and into the module of an instance of a module that was visited
abbrev pub gone_into : ItemStand → Visit → (name : Text) → (child nets : ℕ) → ItemStand
gone_into s v name child nets =
    let prefix = inside (take v.prefix s.prefix) name in
    record { way = s.way ++ visit_at child v.next nets (length prefix) ∷ []; prefix = prefix }

-- what adds these parts
abbrev pub adds : Parts → Netlist → Grown
adds parts n = add_instances parts.instances (with_joins n parts.joins)

-- ---- where a walk stands

-- what is still to come, where the way stands with its last module first
abbrev pub pending_parts : List Module → List Live → List Weight → (prefix : Text) → (back : List Visit) → Parts
pending_parts ms items weights prefix [] = no_parts
pending_parts ms items weights prefix (v ∷ back) =
    and_parts (live_parts (parts_within (length ms) ms) ms weights (take v.prefix prefix) v.first v.next (items_at ms v.number) (drop v.item (live_items_at items v.number)))
    (pending_parts ms items weights prefix back)

-- the nets of a visited module, and those of its instances that are still to come, are among so many
pub record IsSpan (ms : List Module) (items : List Live) (weights : List Weight) (nets : ℕ) (v : Visit) : Type 0 where
  pub m : Module
  pub at : slice_get ms v.number ≡ Some m
  pub own : v.first + length m.nets ≤ nets
  pub rest : v.next + total_by (nets_of weights) (drop v.item (live_items_at items v.number)) ≤ nets

-- each visit of the way has its nets, and the prefix of each begins that of the one behind it
abbrev pub AreSpans : List Module → List Live → List Weight → (nets limit : ℕ) → (back : List Visit) → Type 0
AreSpans ms items weights nets limit [] = Unit {0}
AreSpans ms items weights nets limit (v ∷ back) = IsSpan ms items weights nets v × (v.prefix ≤ limit) × AreSpans ms items weights nets v.prefix back

-- what is built, with what is still to come, is the whole
pub record IsItemWalk (ms : List Module) (items : List Live) (weights : List Weight) (library : List Cell) (whole : Grown) (s : ItemStand) (n : Netlist) : Type 0 where
  pub spans : AreSpans ms items weights (length n.nets) (length s.prefix) (reverse s.way)
  pub printed : IsPrefix s.prefix
  pub few : length n.nets ≤ MAX_NETS
  pub over : n.library ≡ library
  pub rest : adds (pending_parts ms items weights s.prefix (reverse s.way)) n ≡ whole

-- an item can stand in a netlist, where its module's first net has this number
pub record IsItemIn (n : Netlist) (first : ℕ) (i : Item) : Type 0 where
  pub count : ℕ
  pub sound : IsItem n.library count i
  pub within : first + count ≤ length n.nets
  pub few : length n.nets ≤ MAX_NETS

-- ---- how many steps are left

abbrev pub item_visit_size : List Module → List Live → Visit → ℕ
item_visit_size ms items v = suc (total_by (step_of (item_size_in (length ms) items)) (drop v.item (live_items_at items v.number)))

abbrev pub item_way_size : List Module → List Live → List Visit → ℕ
item_way_size ms items way = total_by (item_visit_size ms items) way
