-- The words before this one are the same.
use Rattle.std.proofs.Common.{ℕ, ◌≡◌, ◌<◌, get_or}
use Rattle.dft_fault_lanes.proofs.pulsing.are_same.Given as goal

abbrev pub invariant-loop-word : goal.invariant-loop-word
invariant-loop-word l = (k : ℕ) → k < l.word → (get_or l.one.can_zero k 0 ≡ get_or l.other.can_zero k 0) × (get_or l.one.can_one k 0 ≡ get_or l.other.can_one k 0)
