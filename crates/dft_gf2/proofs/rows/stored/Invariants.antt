-- The rows so far have names up to their places.
use Rattle.std.proofs.Common.{ℕ, ◌≡◌, ◌<◌, ◌+◌, length}
use Rattle.dft_gf2.specs.Rows.{row_at}
use Rattle.dft_gf2.proofs.rows.stored.Given as goal

abbrev pub invariant-loop-place : goal.invariant-loop-place
invariant-loop-place l = record {
  size : length l.rows.items ≡ l.place;
  fitted : (i : ℕ) → i < l.place → (length (row_at l.rows.items i).set ≡ l.columns) × (length (row_at l.rows.items i).sums ≡ i + 1);
}
