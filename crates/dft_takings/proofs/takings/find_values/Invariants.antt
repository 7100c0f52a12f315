-- The flip-flops before this one have their values.
use Rattle.std.proofs.Common.{ℕ, ◌≡◌, ◌<◌, map}
use Rattle.dft_logic.specs.Values.{value_at}
use Rattle.dft_logic.specs.Circuit.{cell_of, cell_at}
use Rattle.dft_takings.specs.Views.{pulse_at}
use Rattle.dft_takings.specs.Takings.{taking_at, taken_by}
use Rattle.dft_takings.proofs.takings.find_values.Given as goal

abbrev pub invariant-loop-at : goal.invariant-loop-at
invariant-loop-at l = (j : ℕ) → j < l.at → value_at l.row j ≡ taken_by (cell_at (map cell_of l.flops)) (pulse_at l.pulse) (value_at l.values) (taking_at l.takings j)
