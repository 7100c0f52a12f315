-- The flags of the instances before this one.
use Rattle.std.proofs.Common.{ℕ, ◌≡◌, ◌<◌, length}
use Rattle.std.specs.Prelude.{◌&&◌}
use Rattle.dft_stitch.specs.Chains.{clock_of}
use Rattle.dft_logic.specs.Circuit.{flag_at}
use Rattle.dft_seek.specs.Searches.{is_of}
use Rattle.dft_seek.proofs.tables.taking.Given as goal

abbrev pub invariant-loop-number : goal.invariant-loop-number
invariant-loop-number l = record {
  size : length l.flags.items ≡ l.number;
  each : (c : ℕ) → c < l.number → flag_at l.flags.items c ≡ (flag_at l.holds c && is_of l.domain l.falling (clock_of l.verdicts (record { 0 = c })));
}
