-- The lock-ups before this one have their values.
use Rattle.std.proofs.Common.{◌≡◌, false, length, drop}
use Rattle.dft_cycle.specs.Machine.{value_at}
use Rattle.dft_logic.specs.Circuit.{latch_at}
use Rattle.dft_cycle.specs.Views.{held_by}
use Rattle.dft_cycle.proofs.DomainLemmas.{Listed}
use Rattle.dft_cycle.proofs.flops.hold.Given as goal

abbrev pub invariant-loop-latch : goal.invariant-loop-latch
invariant-loop-latch l = record {
  written : Listed (length l.circuit.latches) l.initial.held l.held (λ c old. held_by (latch_at l.circuit.latches c) l.fn.domain.0 (value_at l.values) old) (drop l.latch-index l.latch-items);
  same : l.changed ≡ false → l.held ≡ l.initial.held;
}
