-- The numbers so far, and the rest.
use Rattle.std.proofs.Common.{◌≡◌, ◌++◌, drop, Ok}
use Rattle.dft_config_text.specs.Faults.{after}
use Rattle.dft_config_text.specs.Settings.{all_below}
use Rattle.dft_config_text.proofs.lists.small_all_below.Given as goal

abbrev pub invariant-loop-number : goal.invariant-loop-number
invariant-loop-number l = all_below l.key l.bound l.numbers ≡ after (all_below l.key l.bound (drop l.number-index l.numbers)) (λ rest. Ok (l.list.items ++ rest))
