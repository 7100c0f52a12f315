-- The flip-flops before this one have their values.
use Rattle.std.proofs.Common.{◌≡◌, length, map}
use Rattle.std.specs.Prelude.{if◌then◌else◌}
use Rattle.dft_cycle.specs.Machine.{value_at}
use Rattle.dft_logic.specs.Circuit.{cell_of, cell_at}
use Rattle.dft_logic.proofs.Writings.{Written}
use Rattle.dft_cycle.proofs.MachineLemmas.{changed_by}
use Rattle.dft_cycle.proofs.machine.take.Given as goal

abbrev pub invariant-loop-place : goal.invariant-loop-place
invariant-loop-place l =
    Written l.fn.cells.values l.cells.values (λ c old. if changed_by l.rising l.pulsed (cell_at (map cell_of l.flops) c) then value_at l.next c else old) l.place
    × ((l.cells.layout ≡ l.fn.cells.layout) × (length l.cells.values ≡ length l.fn.cells.values))
