-- None of the clocks before this one pulses and may fall.
use Rattle.std.proofs.Common.{ℕ, true, false, ◌≡◌, ◌<◌}
use Rattle.dft_logic.specs.Circuit.{flag_at}
use Rattle.dft_cycle.proofs.machine.some_fall.Given as goal

abbrev pub invariant-loop-place : goal.invariant-loop-place
invariant-loop-place l = (place : ℕ) → place < l.place → flag_at l.pulsed place ≡ true → flag_at l.falls place ≡ false
