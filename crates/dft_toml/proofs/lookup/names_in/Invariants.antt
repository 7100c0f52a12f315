-- The names so far, and those of the rest.
use Rattle.std.proofs.Common.{◌≡◌, ◌++◌, drop, option_map}
use Rattle.toml.specs.View.{items_view}
use Rattle.dft_toml.specs.Values.{names_in}
use Rattle.dft_toml.proofs.lookup.names_in.Given as goal

abbrev pub invariant-loop-item : goal.invariant-loop-item
invariant-loop-item l = names_in (items_view l.item-items) ≡ option_map (λ rest. l.names ++ rest) (names_in (items_view (drop l.item-index l.item-items)))
