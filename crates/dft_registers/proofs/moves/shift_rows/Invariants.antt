-- The rows before this one are moved.
use Rattle.std.proofs.Common.{◌≡◌, length}
use Rattle.std.specs.Prelude.{map}
use Rattle.dft_registers.proofs.MoveLemmas.{AreMoved}
use Rattle.dft_registers.proofs.moves.shift_rows.Given as goal

abbrev pub invariant-loop-number : goal.invariant-loop-number
invariant-loop-number g l = (length l.rows ≡ length l.initial.rows) × AreMoved (map g.W.Way.move_value l.moves) l.number l.initial.rows l.rows
