use Rattle.std.proofs.Common.{length}
use Rattle.dft_hier.specs.Reach.{AreBelow}
use Rattle.dft_hier.proofs.components.number_all.Given as goal

abbrev pub invariant-loop-place : goal.invariant-loop-place
invariant-loop-place l = AreBelow (length l.parents) l.ahead.items
