use Rattle.std.proofs.Common.{◌≡◌, length}
use Rattle.dft_hier.proofs.components.given.Given as goal

abbrev pub invariant-loop-number : goal.invariant-loop-number
invariant-loop-number l = length l.given.items ≡ l.number-index
