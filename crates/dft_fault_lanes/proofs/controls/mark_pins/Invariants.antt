-- The pins before this one are marked.
use Rattle.std.proofs.Common.{ℕ, true, ◌≡◌}
use Rattle.dft_logic.specs.Circuit.{flag_at}
use Rattle.dft_fault_lanes.proofs.ControlLemmas.{FirstPins}
use Rattle.dft_fault_lanes.proofs.controls.mark_pins.Given as goal

abbrev pub invariant-loop-pin : goal.invariant-loop-pin
invariant-loop-pin l = FirstPins l.library l.instance (flag_at l.marked) l.pin × ((k : ℕ) → flag_at l.fn.marked k ≡ true → flag_at l.marked k ≡ true)
