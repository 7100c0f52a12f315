use Rattle.std.proofs.Common.{◌≡◌, ◌++◌, drop}
use Rattle.dft_edt.specs.RingRecipe.{tap_nets}
use Rattle.dft_edt.proofs.stages.push_taps.Given as goal

abbrev pub invariant-loop-tap : goal.invariant-loop-tap
invariant-loop-tap l = l.terms.items ++ tap_nets (drop l.tap-index l.taps) l.stages l.stage ≡ l.fn.terms.items ++ tap_nets l.taps l.stages l.stage
