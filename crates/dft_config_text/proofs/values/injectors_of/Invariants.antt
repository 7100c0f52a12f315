-- The pairs so far, and the rest.
use Rattle.std.proofs.Common.{◌≡◌, ◌++◌, drop, Ok}
use Rattle.dft_config_text.specs.Faults.{after}
use Rattle.dft_config_text.specs.Settings.{injectors_of}
use Rattle.dft_config_text.proofs.values.injectors_of.Given as goal

abbrev pub invariant-loop-pair : goal.invariant-loop-pair
invariant-loop-pair l = injectors_of l.channels l.stages l.pairs ≡ after (injectors_of l.channels l.stages (drop l.pair-index l.pairs)) (λ rest. Ok (l.injectors.items ++ rest))
