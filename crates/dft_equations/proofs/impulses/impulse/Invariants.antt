-- The states so far, and the one that comes next.
use Rattle.std.proofs.Common.{◌≡◌, ℕ, length}
use Rattle.dft_base.specs.Solutions.{bit_at}
use Rattle.dft_config.specs.Ring.{state_after}
use Rattle.dft_config.specs.Loads.{single}
use Rattle.dft_equations.specs.Impulses.{IsImpulse}
use Rattle.dft_equations.proofs.impulses.impulse.Given as goal

abbrev pub invariant-loop-cycle : goal.invariant-loop-cycle
invariant-loop-cycle l = record {
  so_far : IsImpulse l.config.ring l.channel l.cycle l.response.items;
  stages : length l.state.items ≡ l.config.ring.stages;
  bits : (stage : ℕ) → bit_at l.state.items stage ≡ state_after l.config.ring (single l.channel 0) l.cycle stage;
}
