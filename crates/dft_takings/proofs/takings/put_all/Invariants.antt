-- The flip-flops before this one have their values, where they lay.
use Rattle.std.proofs.Common.{◌≡◌, length}
use Rattle.dft_registers.specs.Cells.{value_at, course}
use Rattle.dft_takings.specs.Takings.{ArePut}
use Rattle.dft_takings.proofs.takings.put_all.Given as goal

abbrev pub invariant-loop-at : goal.invariant-loop-at
invariant-loop-at l =
    ArePut l.takings l.at (value_at l.row) (course l.fn.cells.layout l.moves) l.fn.cells.values l.cells.values × ((l.cells.layout ≡ l.fn.cells.layout) × (length l.cells.values ≡ length l.fn.cells.values))
