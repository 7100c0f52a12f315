-- The lists so far, and the rest.
use Rattle.std.proofs.Common.{◌≡◌, ◌++◌, drop, Ok}
use Rattle.dft_config_text.specs.Faults.{after}
use Rattle.dft_config_text.specs.Settings.{lists_below}
use Rattle.dft_config_text.proofs.lists.lists_below.Given as goal

abbrev pub invariant-loop-list : goal.invariant-loop-list
invariant-loop-list l = lists_below l.key l.bound l.lists ≡ after (lists_below l.key l.bound (drop l.list-index l.lists)) (λ rest. Ok (l.found.items ++ rest))
