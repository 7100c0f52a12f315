-- The registers before this one are found.
use Rattle.std.proofs.Common.{ℕ, ◌<◌}
use Rattle.dft_registers.specs.Cells.{move_at}
use Rattle.dft_takings.specs.EntryTables.{entry_at}
use Rattle.dft_takings.proofs.TakingLemmas.{IsFoundMove}
use Rattle.dft_takings.proofs.takings.find_moves.Given as goal

abbrev pub invariant-loop-register : goal.invariant-loop-register
invariant-loop-register l = (r : ℕ) → r < l.register → IsFoundMove (entry_at l.entries) l.cells.layout.registers r (move_at l.moves r)
