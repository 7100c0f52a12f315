use Rattle.std.proofs.Common.{length}
use Rattle.dft_hier.specs.Reach.{AreBelow}
use Rattle.dft_hier.proofs.components.number_parents.Given as goal

abbrev pub invariant-loop-parent : goal.invariant-loop-parent
invariant-loop-parent l = AreBelow (length l.initial.numbers) l.ahead.items
