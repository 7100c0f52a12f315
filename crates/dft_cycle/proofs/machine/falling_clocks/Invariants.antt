-- Each clock before this one has its entry.
use Rattle.std.proofs.Common.{ℕ, false, ◌≡◌, ◌<◌, length, get_or}
use Rattle.dft_logic.specs.Circuit.{flag_at}
use Rattle.dft_cycle.specs.Views.{Rises}
use Rattle.dft_cycle.proofs.machine.falling_clocks.Given as goal

abbrev pub invariant-loop-clock : goal.invariant-loop-clock
invariant-loop-clock l = record {
  count : length l.falls.items ≡ l.clock-index;
  rest : (place : ℕ) → place < length l.falls.items → flag_at l.falls.items place ≡ false → Rises l.circuit (get_or l.clocks place (record { 0 = 0 })).0;
}
