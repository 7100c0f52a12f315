-- The rest of the modules gives what all of them give.
use Rattle.std.proofs.Common.{◌≡◌, drop}
use Rattle.dft_hier.specs.Descents.{are_finished}
use Rattle.dft_hier.proofs.descent.Descent.are_finished.Given as goal

abbrev pub invariant-loop-number : goal.invariant-loop-number
invariant-loop-number l = are_finished l.self.states l.numbers ≡ are_finished l.self.states (drop l.number-index l.numbers)
