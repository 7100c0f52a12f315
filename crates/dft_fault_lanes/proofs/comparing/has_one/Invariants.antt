-- The words before this one have no lane that is 1.
use Rattle.std.proofs.Common.{ℕ, ◌≡◌, ◌<◌, ◌-◌, get_or, min}
use Rattle.std.specs.Int.{bit_at}
use Rattle.dft_fault_lanes.proofs.comparing.has_one.Given as goal

abbrev pub invariant-loop-word : goal.invariant-loop-word
invariant-loop-word l = (k i : ℕ) → k < l.word → i < 64 → min (bit_at (get_or l.wide.can_one k 0) i) (1 - bit_at (get_or l.wide.can_zero k 0) i) ≡ 0
