-- The first register is left out.
use Rattle.std.proofs.Common.{false, ◌≡◌, ◌<◌}
use Rattle.dft_logic.specs.Circuit.{flag_at}
use Rattle.dft_fault_lanes.proofs.moves.raise.Given as goal

abbrev pub invariant-loop-number : goal.invariant-loop-number
invariant-loop-number l = 0 < l.number → flag_at l.moves 0 ≡ false
