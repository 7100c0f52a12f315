-- The bits so far.
use Rattle.std.proofs.Common.{◌≡◌, ℕ, ◌+◌, ◌<◌, ◌%◌, length}
use Rattle.dft_base.specs.Solutions.{bit_at}
use Rattle.dft_expect.proofs.ring.rotated.Given as goal

abbrev pub invariant-loop-stage : goal.invariant-loop-stage
invariant-loop-stage l = record {
  size : length l.next.items ≡ l.stage;
  bits : (k : ℕ) → k < l.stage → bit_at l.next.items k ≡ bit_at l.state ((k + 1) % length l.state);
}
