use Rattle.dft_hier.proofs.WalkLemmas.{IsUnderWay, walk_weight}
use Rattle.std.proofs.Common.{◌+◌}
use Rattle.dft_hier.proofs.descent.Descent.run.Given as goal

abbrev pub invariant-loop-visit : goal.invariant-loop-visit
invariant-loop-visit l = IsUnderWay l.children (l.from + 1) l.self

abbrev pub decreases-loop-visit : goal.decreases-loop-visit
decreases-loop-visit l = walk_weight l.children l.self
