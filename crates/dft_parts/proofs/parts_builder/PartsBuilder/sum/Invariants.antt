use Rattle.std.proofs.Common.{length}
use Rattle.dft_parts.proofs.Levels.{Leveling}
use Rattle.dft_parts.proofs.parts_builder.PartsBuilder.sum.Given as goal

abbrev pub invariant-loop-self : goal.invariant-loop-self
invariant-loop-self l = Leveling l.fn.self l.self l.terms l.left.items

abbrev pub decreases-loop-self : goal.decreases-loop-self
decreases-loop-self l = length l.left.items
