-- The rows before the place are kept.
use Rattle.std.proofs.Common.{length, ◌≤◌}
use Rattle.dft_gf2.specs.Rows.{IsEchelon}
use Rattle.dft_gf2.proofs.system.free.Given as goal

abbrev pub invariant-loop-place : goal.invariant-loop-place
invariant-loop-place l = record {
  order : l.first ≤ l.place;
  echelon : IsEchelon (length l.fn.row_of) l.rows l.row_of l.place;
}
