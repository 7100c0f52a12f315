-- What the taps so far brought, and what the rest brings.
use Rattle.std.proofs.Common.{◌≡◌, ℕ, drop}
use Rattle.dft_base.specs.Solutions.{bit_at, xor}
use Rattle.dft_config.specs.Ring.{tapped}
use Rattle.dft_expect.proofs.ring.add_taps.Given as goal

abbrev pub invariant-loop-tap : goal.invariant-loop-tap
invariant-loop-tap l =
    (stage : ℕ) → xor (bit_at l.next stage) (tapped (drop l.tap-index l.taps) (bit_at l.state) stage)
    ≡ xor (bit_at l.initial.next stage) (tapped l.taps (bit_at l.state) stage)
