-- Modules that are laid out for a walk through their items.
use Rattle.std.specs.Prelude.{ℕ, suc, ◌≡◌, ◌+◌, ◌<◌, ◌≤◌, List, length, Some, None, slice_get, slice_index_or}
use Rattle.dft_cells.specs.declared.cell.Cell.{Cell}
use Rattle.dft_netlist.specs.declared.limits.TheConstants.{MAX_NETS}
use Rattle.dft_modules.specs.declared.module.Item.{Item}
use Rattle.dft_modules.specs.Modules.{Module}
use Rattle.dft_modules.specs.Sound.{AreModules}
use Rattle.dft_hier.specs.declared.weights.Weight.{Weight}
use Rattle.dft_hier.specs.declared.weights.LiveItem.TheVariants.{Own, Sub}
use Rattle.dft_hier.specs.declared.weights.LiveSub.{LiveSub}
use Rattle.dft_hier.specs.FlatItems.{GivesParts, live_items_at, item_size_in, net_total, nets_of}
use Rattle.dft_hier.specs.FlatNets.{IsSubAt, items_at, total_by}
use Rattle.dft_hier.specs.Hierarchy.{sub_of}
use Rattle.dft_hier.specs.Weights.{Live, no_weight}

-- an item of a module's own is there, and is no module instance
pub record IsOwnAt (ms : List Module) (number place : ℕ) : Type 0 where
  pub own : Item
  pub item_at : slice_get (items_at ms number) place ≡ Some own
  pub none : sub_of own ≡ None

pub record AreItemsLaid (library : List Cell) (ms : List Module) (items : List Live) (weights : List Weight) : Type 0 where
  pub sound : AreModules library ms
  pub count : length items ≡ length ms
  pub weighed : length weights ≡ length ms
  pub owns : (number at place : ℕ) → slice_get (live_items_at items number) at ≡ Some (Own place) → IsOwnAt ms number place
  pub subs : (number at : ℕ) (l : LiveSub) → slice_get (live_items_at items number) at ≡ Some (Sub l) → IsSubAt ms number l
  -- a weight that is no more than there may be is the number of nets
  pub exact : (number : ℕ) (m : Module) → slice_get ms number ≡ Some m → (slice_index_or weights number no_weight).nets ≤ MAX_NETS → net_total ms m ≡ (slice_index_or weights number no_weight).nets
  pub totals : (number : ℕ) (m : Module) → slice_get ms number ≡ Some m → net_total ms m ≤ MAX_NETS → net_total ms m ≡ length m.nets + total_by (nets_of weights) (live_items_at items number)
  pub gives : (number : ℕ) (m : Module) → slice_get ms number ≡ Some m → GivesParts ms items weights number m
  pub steps : (number : ℕ) → number < length ms → item_size_in (length ms) items number ≡ item_size_in (suc (length ms)) items number
