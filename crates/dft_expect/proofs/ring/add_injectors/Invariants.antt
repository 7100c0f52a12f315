-- What the injectors so far brought, and what the rest brings.
use Rattle.std.proofs.Common.{◌≡◌, ℕ, ◌+◌, drop}
use Rattle.dft_base.specs.Packed.{packed_bit}
use Rattle.dft_base.specs.Solutions.{bit_at, xor}
use Rattle.dft_config.specs.Ring.{injected}
use Rattle.dft_expect.proofs.ring.add_injectors.Given as goal

abbrev pub invariant-loop-injector : goal.invariant-loop-injector
invariant-loop-injector l =
    (stage : ℕ) → xor (bit_at l.next stage) (injected (drop l.injector-index l.injectors) (λ channel. packed_bit l.bits (l.first + channel)) stage)
    ≡ xor (bit_at l.initial.next stage) (injected l.injectors (λ channel. packed_bit l.bits (l.first + channel)) stage)
