-- The pairs so far, and the rest.
use Rattle.std.proofs.Common.{◌≡◌, ◌++◌, drop, Ok}
use Rattle.dft_config_text.specs.Faults.{after}
use Rattle.dft_config_text.specs.Settings.{taps_of}
use Rattle.dft_config_text.proofs.values.taps_of.Given as goal

abbrev pub invariant-loop-pair : goal.invariant-loop-pair
invariant-loop-pair l = taps_of l.stages l.pairs ≡ after (taps_of l.stages (drop l.pair-index l.pairs)) (λ rest. Ok (l.taps.items ++ rest))
