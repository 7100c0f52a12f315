-- Steps of a walk through items, over the modules of a hierarchy.
use Rattle.std.specs.Prelude.{List, Result}
use Rattle.std.specs.Result.{MatchResult}
use Rattle.dft_cells.specs.declared.cell.Cell.{Cell}
use Rattle.dft_netlist.specs.declared.error.NetlistError.{NetlistError}
use Rattle.dft_netlist.specs.Netlist.{Netlist}
use Rattle.dft_netlist_text.specs.NetlistText.{Grown}
use Rattle.dft_hier.specs.declared.flat_nets.Hierarchy.{Hierarchy}
use Rattle.dft_hier.specs.Growing.{IsRefusal}
use Rattle.dft_hier.specs.ItemWalks.{ItemStand, IsItemWalk}

-- the walk stands here, for this whole
abbrev pub IsWalk : Hierarchy → (library : List Cell) → (whole : Grown) → ItemStand → Netlist → Type 0
IsWalk h library whole s n = IsItemWalk h.modules.now h.items.now h.weights.now library whole s n

-- for some whole
pub record Stands (h : Hierarchy) (n : Netlist) (s : ItemStand) : Type 0 where
  pub whole : Grown
  pub walk : IsWalk h n.library whole s n

-- for each whole, the walk stands where it goes on to, or is refused as the whole is
abbrev pub Walks : {X : Type 0} → Hierarchy → (old : ItemStand) → (before : Netlist) → Result X NetlistError → (new : ItemStand) → (behind : Netlist) → Type 0
Walks h old before result new behind = (whole : Grown) → IsWalk h before.library whole old before → MatchResult result (λ _. IsWalk h before.library whole new behind) (IsRefusal whole)
