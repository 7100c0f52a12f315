-- The flags so far.
use Rattle.std.proofs.Common.{ℕ, ◌≡◌, ◌<◌, length}
use Rattle.std.specs.Prelude.{◌&&◌}
use Rattle.dft_logic.specs.Circuit.{flag_at}
use Rattle.dft_seek.proofs.tables.passing.Given as goal

abbrev pub invariant-loop-flag : goal.invariant-loop-flag
invariant-loop-flag l = record {
  size : length l.passed.items ≡ l.flag-index;
  each : (c : ℕ) → c < l.flag-index → flag_at l.passed.items c ≡ (l.any && flag_at l.flags c);
}
