-- What the injectors so far brought, and what the rest brings.
use Rattle.std.proofs.Common.{◌≡◌, ℕ, ◌&&◌, drop}
use Rattle.std.specs.Prelude.{◌==◌}
use Rattle.dft_base.specs.Solutions.{bit_at, xor}
use Rattle.dft_config.specs.Ring.{injected}
use Rattle.dft_equations.proofs.impulses.add_injectors.Given as goal

abbrev pub invariant-loop-injector : goal.invariant-loop-injector
invariant-loop-injector l =
    (stage : ℕ) → xor (bit_at l.next stage) (injected (drop l.injector-index l.injectors) (λ other. (other == l.channel) && l.bit) stage)
    ≡ xor (bit_at l.initial.next stage) (injected l.injectors (λ other. (other == l.channel) && l.bit) stage)
