-- The clocks so far are flagged.
use Rattle.std.proofs.Common.{ℕ, ◌≡◌, ◌||◌, drop}
use Rattle.dft_cycle.specs.Machine.{is_one_of}
use Rattle.dft_logic.specs.Circuit.{flag_at}
use Rattle.dft_fault_lanes.proofs.grading.flag_clocks.Given as goal

abbrev pub invariant-loop-clock : goal.invariant-loop-clock
invariant-loop-clock l = (e : ℕ) → (flag_at l.flags e || is_one_of (drop l.clock-index l.clocks) e) ≡ is_one_of l.clocks e
