-- The words so far.
use Rattle.std.proofs.Common.{◌≡◌, ℕ, ◌+◌, ◌*◌, ◌<◌, length, get_or}
use Rattle.std.specs.Prelude.{◌==◌}
use Rattle.std.specs.Int.{bit_at as bit_of_word}
use Rattle.dft_base.specs.Packed.{packed_bit}
use Rattle.dft_equations.proofs.row.Row.moved.Given as goal

abbrev pub invariant-loop-word : goal.invariant-loop-word
invariant-loop-word l = record {
  size : length l.words.items ≡ l.word;
  each : (w i : ℕ) → w < l.word → i < 64 → (bit_of_word (get_or l.words.items w 0) i == 1) ≡ packed_bit l.self-inside.words.items (64 * w + i + l.places);
}
