-- The rows so far are unknown.
use Rattle.std.proofs.Common.{ℕ, ◌≡◌, ◌<◌, length}
use Rattle.std.specs.Prelude.{replicate}
use Rattle.dft_registers.specs.Layout.{cells_at}
use Rattle.dft_registers.specs.Cells.{row_at}
use Rattle.dft_registers.proofs.cells.unknown_rows.Given as goal

abbrev pub invariant-loop-number : goal.invariant-loop-number
invariant-loop-number g l = (length l.rows.items ≡ l.number) × ((r : ℕ) → r < l.number → row_at l.rows.items r ≡ replicate (length (cells_at l.layout.registers r)) g.V.Value.unknown_value)
