-- What the lines so far sum to, with the lines that are left.
use Rattle.std.proofs.Common.{ℕ, ◌≡◌, drop}
use Rattle.dft_base.specs.Packed.{packed_bit}
use Rattle.dft_base.specs.Solutions.{xor}
use Rattle.dft_lanes.specs.Rows.{IsPacked}
use Rattle.dft_merge.specs.LoadPlan.{columns_by, rows_by}
use Rattle.dft_certify.specs.Certifying.{has_column, odd_in}
use Rattle.dft_certify.proofs.parity.is_certificate.Given as goal

abbrev pub invariant-loop-line : goal.invariant-loop-line
invariant-loop-line l = record {
  packed : IsPacked (columns_by l.loads) l.parity.items;
  odd : xor l.odd (odd_in (λ line. line.bit) (drop l.line-index l.lines)) ≡ odd_in (λ line. line.bit) l.lines;
  columns : (column : ℕ) → xor (packed_bit l.parity.items column) (odd_in (has_column l.loads.design (rows_by l.loads) column) (drop l.line-index l.lines)) ≡ odd_in (has_column l.loads.design (rows_by l.loads) column) l.lines;
}
