-- The nets before this one.
use Rattle.std.proofs.Common.{ℕ, ◌≡◌, ◌<◌, length}
use Rattle.dft_logic.specs.Circuit.{op_at}
use Rattle.dft_seek.specs.Marks.{steps_at}
use Rattle.dft_seek.specs.Steps.{op_steps, shown_at}
use Rattle.dft_seek.proofs.steps.steps.Given as goal

abbrev pub invariant-loop-net : goal.invariant-loop-net
invariant-loop-net l = record {
  size : length l.steps.items ≡ l.net;
  each : (net : ℕ) → net < l.net → steps_at l.steps.items net ≡ op_steps (op_at l.ops net) (shown_at l.shows net) l.pins l.passed;
}
