-- Of those so far none has a higher number than those of its instances.
use Rattle.std.proofs.Common.{ℕ, ◌<◌, ◌≤◌, get_or}
use Rattle.dft_hier.specs.Reach.{StandsIn, children_at}
use Rattle.dft_hier.proofs.reach.never_falls.Given as goal

abbrev pub invariant-loop-number : goal.invariant-loop-number
invariant-loop-number l = (k : ℕ) → k < l.number → (child : ℕ) → StandsIn (children_at l.children k) child → get_or l.numbers k 0 ≤ get_or l.numbers child 0
