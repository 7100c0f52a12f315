-- A number or none for each module.
use Rattle.std.proofs.Common.{◌≡◌, length}
use Rattle.dft_hier.proofs.components.components.Given as goal

abbrev pub invariant-loop-place : goal.invariant-loop-place
invariant-loop-place l = length l.numbers.items ≡ length l.children
