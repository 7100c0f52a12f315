-- The flags of the entries so far are up.
use Rattle.std.proofs.Common.{ℕ, ◌≡◌, ◌||◌, drop}
use Rattle.dft_cycle.specs.Machine.{pulses}
use Rattle.dft_logic.specs.Circuit.{flag_at}
use Rattle.dft_cycle.proofs.machine.mark.Given as goal

abbrev pub invariant-loop-place : goal.invariant-loop-place
invariant-loop-place l = (e : ℕ) → (flag_at l.flags e || pulses (drop l.place l.clocks) (drop l.place l.pulsed) e) ≡ pulses l.clocks l.pulsed e
