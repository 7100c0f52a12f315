-- A walk through the nets below a module: the way down to the nets that come next, and the prefix of the last module on it.
use Rattle.std.specs.Prelude.{ℕ, suc, ◌≡◌, ◌+◌, ◌<◌, ◌≤◌, List, [], ◌∷◌, ◌++◌, length, take, drop, reverse}
use Rattle.dft_base.specs.Lexing.{Text}
use Rattle.dft_modules.specs.Modules.{Module}
use Rattle.dft_netlist.specs.Netlist.{Netlist}
use Rattle.dft_netlist_text.specs.NetlistText.{Grown, add_nets}
use Rattle.dft_hier.specs.declared.flat_nets.Visit.{Visit}
use Rattle.dft_hier.specs.declared.weights.LiveSub.{LiveSub}
use Rattle.dft_hier.specs.Flat.{inside}
use Rattle.dft_hier.specs.FlatNets.{total_by, nets_in, live_nets, items_at, live_at, size_in}
use Rattle.dft_hier.specs.Growing.{IsPrefix}
use Rattle.dft_hier.specs.Weights.{Live}

-- the way has its last module last
pub record NetStand : Type 0 where
  pub way : List Visit
  pub prefix : Text

-- from a module whose own nets are there
abbrev pub at_module : (number : ℕ) → NetStand
at_module number = record { way = record { number = number; next = 0; prefix = 0 } ∷ []; prefix = [] }

-- a visit past an instance, and one of the instance's module
abbrev pub passed : Visit → Visit
passed v = record { number = v.number; next = v.next + 1; prefix = v.prefix }

abbrev pub visit_of : (child prefix : ℕ) → Visit
visit_of child prefix = record { number = child; next = 0; prefix = prefix }

-- the way goes on past an instance of a module that was visited, and into the module of the instance
abbrev pub gone_on : NetStand → Visit → (name : Text) → (child : ℕ) → NetStand
gone_on s v name child =
    let prefix = inside (take v.prefix s.prefix) name in
    record { way = (s.way ++ passed v ∷ []) ++ visit_of child (length prefix) ∷ []; prefix = prefix }

-- ---- where a walk stands

-- the nets that are still to come, where the way stands with its last module first
abbrev pub pending : List Module → List Live → (prefix : Text) → (back : List Visit) → List Text
pending ms items prefix [] = []
pending ms items prefix (v ∷ back) =
    live_nets (nets_in (length ms) ms) ms (take v.prefix prefix) (items_at ms v.number) (drop v.next (live_at items v.number)) ++ pending ms items prefix back

-- the modules of the way are there, and the prefix of each begins that of the one behind it
abbrev pub IsNested : (count limit : ℕ) → (back : List Visit) → Type 0
IsNested count limit [] = Unit {0}
IsNested count limit (v ∷ back) = (v.number < count) × (v.prefix ≤ limit) × IsNested count v.prefix back

-- what is built, with the nets that are still to come, is the whole
pub record IsNetWalk (ms : List Module) (items : List Live) (whole : Grown) (s : NetStand) (n : Netlist) : Type 0 where
  pub nested : IsNested (length ms) (length s.prefix) (reverse s.way)
  pub printed : IsPrefix s.prefix
  pub rest : add_nets (pending ms items s.prefix (reverse s.way)) n ≡ whole

-- ---- how many steps are left

abbrev pub visit_size : List Module → List Live → Visit → ℕ
visit_size ms items v = suc (total_by (λ (l : LiveSub). suc (size_in (length ms) items l.child)) (drop v.next (live_at items v.number)))

abbrev pub way_size : List Module → List Live → List Visit → ℕ
way_size ms items way = total_by (visit_size ms items) way
