-- Those so far have other numbers.
use Rattle.std.proofs.Common.{ℕ, ◌≡◌, ◌<◌, get_or}
use Rattle.dft_hier.proofs.reach.has_own.Given as goal

abbrev pub invariant-loop-child : goal.invariant-loop-child
invariant-loop-child l = (k : ℕ) → k < l.child-index → l.number ≡ get_or l.numbers (get_or l.children k 0) 0 → ⊥
