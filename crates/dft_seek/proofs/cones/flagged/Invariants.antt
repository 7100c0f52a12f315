-- Those of the first ones.
use Rattle.std.proofs.Common.{◌≡◌, filter, take}
use Rattle.dft_logic.specs.Circuit.{flag_at}
use Rattle.dft_seek.proofs.cones.flagged.Given as goal

abbrev pub invariant-loop-cell : goal.invariant-loop-cell
invariant-loop-cell l = l.left.items ≡ filter (λ cell. flag_at l.flags cell.0) (take l.cell-index l.cells)
