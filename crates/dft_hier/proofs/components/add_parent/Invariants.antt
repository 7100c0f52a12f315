use Rattle.std.proofs.Common.{length}
use Rattle.dft_hier.specs.Reach.{AreWithin}
use Rattle.dft_hier.proofs.components.add_parent.Given as goal

abbrev pub invariant-loop-child : goal.invariant-loop-child
invariant-loop-child l = AreWithin (length l.initial.parents) l.parents
