-- The pairs so far, and the rest.
use Rattle.std.proofs.Common.{◌≡◌, ◌++◌, drop, option_map}
use Rattle.dft_config_text.specs.Settings.{pairs_of}
use Rattle.dft_config_text.proofs.lists.pairs_of.Given as goal

abbrev pub invariant-loop-list : goal.invariant-loop-list
invariant-loop-list l = pairs_of l.lists ≡ option_map (λ rest. l.pairs.items ++ rest) (pairs_of (drop l.list-index l.lists))
