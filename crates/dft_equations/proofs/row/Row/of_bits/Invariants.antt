-- The bits so far, and no bit from there on.
use Rattle.std.proofs.Common.{◌≡◌, ℕ, ◌+◌, ◌/◌, ◌<◌, ◌≤◌, false, length}
use Rattle.dft_base.specs.Solutions.{bit_at}
use Rattle.dft_base.specs.Packed.{packed_bit}
use Rattle.dft_equations.proofs.row.Row.of_bits.Given as goal

abbrev pub invariant-loop-column : goal.invariant-loop-column
invariant-loop-column l = record {
  size : length l.words.items ≡ (length l.bits + 63) / 64;
  done : (k : ℕ) → k < l.column → packed_bit l.words.items k ≡ bit_at l.bits k;
  rest : (k : ℕ) → l.column ≤ k → packed_bit l.words.items k ≡ false;
}
