-- The flip-flops before this one have their values.
use Rattle.std.proofs.Common.{length, map, drop}
use Rattle.dft_cycle.specs.Machine.{value_at}
use Rattle.dft_logic.specs.Circuit.{cell_of, cell_at}
use Rattle.dft_cycle.specs.Views.{next_by}
use Rattle.dft_cycle.proofs.DomainLemmas.{Listed}
use Rattle.dft_cycle.proofs.flops.take_next.Given as goal

abbrev pub invariant-loop-cell : goal.invariant-loop-cell
invariant-loop-cell l =
    Listed (length l.circuit.flops) l.initial.next l.next (λ c old. next_by (cell_at (map cell_of l.circuit.flops) c) l.fn.domain.0 (value_at l.ports) (value_at l.values) old) (drop l.cell-index l.cell-items)
