-- The flip-flops before this one were acted on.
use Rattle.std.proofs.Common.{◌≡◌, length, map, drop}
use Rattle.dft_cycle.specs.Machine.{acted}
use Rattle.dft_logic.specs.Circuit.{cell_of, cell_at}
use Rattle.dft_cycle.proofs.DomainLemmas.{Listed}
use Rattle.dft_cycle.proofs.machine.act.Given as goal

abbrev pub invariant-loop-cell : goal.invariant-loop-cell
invariant-loop-cell l =
    Listed (length l.circuit.flops) l.fn.cells.values l.cells.values (λ c old. acted (cell_at (map cell_of l.circuit.flops) c).forces l.net.0 l.value old) (drop l.cell-index l.cell-items)
    × ((l.cells.layout ≡ l.fn.cells.layout) × (length l.cells.values ≡ length l.fn.cells.values))
