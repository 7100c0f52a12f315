-- The modules of the instances so far are marked.
use Rattle.std.proofs.Common.{ℕ, ◌≡◌, ◌<◌, ◌||◌, ◌==◌, false, length, take, get_or}
use Rattle.std.specs.List.{list_any}
use Rattle.dft_hier.proofs.tops.mark.Given as goal

abbrev pub invariant-loop-child : goal.invariant-loop-child
invariant-loop-child l = (k : ℕ) → k < length l.marks → get_or l.marks k false ≡ (get_or l.initial.marks k false || list_any (λ c. c == k) (take l.child-index l.children))
