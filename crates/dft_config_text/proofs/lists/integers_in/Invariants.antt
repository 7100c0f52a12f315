-- The items so far, and the rest.
use Rattle.std.proofs.Common.{◌≡◌, ◌++◌, drop, option_map}
use Rattle.toml.specs.View.{items_view}
use Rattle.dft_config_text.specs.Settings.{integers_in}
use Rattle.dft_config_text.proofs.lists.integers_in.Given as goal

abbrev pub invariant-loop-item : goal.invariant-loop-item
invariant-loop-item l = integers_in (items_view l.item-items) ≡ option_map (λ rest. l.list.items ++ rest) (integers_in (items_view (drop l.item-index l.item-items)))
