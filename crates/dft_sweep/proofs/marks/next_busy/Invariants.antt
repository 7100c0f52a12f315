-- The places from the first on to this one are idle, and this one is in this word.
use Rattle.std.proofs.Common.{ℕ, false, ◌≡◌, ◌<◌, ◌≤◌, ◌/◌}
use Rattle.dft_sweep.specs.Places.{is_busy}
use Rattle.dft_sweep.proofs.marks.next_busy.Given as goal

abbrev pub invariant-loop-word : goal.invariant-loop-word
invariant-loop-word l = record {
  low : l.from ≤ l.at;
  here : l.at / 64 ≡ l.word;
  idle : (p : ℕ) → l.from ≤ p → p < l.at → is_busy l.busy p ≡ false;
}
