-- None so far stands below itself.
use Rattle.std.proofs.Common.{ℕ, ◌<◌}
use Rattle.dft_hier.specs.Reach.{Leads}
use Rattle.dft_hier.proofs.reach.first_by_search.Given as goal

abbrev pub invariant-loop-number : goal.invariant-loop-number
invariant-loop-number l = (k : ℕ) → k < l.number → Leads l.children k k → ⊥
