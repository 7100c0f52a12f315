-- None so far has an instance of a module of its own number.
use Rattle.std.proofs.Common.{ℕ, ◌<◌}
use Rattle.dft_hier.specs.Reach.{HasOwn}
use Rattle.dft_hier.proofs.reach.first_with_own.Given as goal

abbrev pub invariant-loop-number : goal.invariant-loop-number
invariant-loop-number l = (k : ℕ) → k < l.number → HasOwn l.children l.numbers k → ⊥
