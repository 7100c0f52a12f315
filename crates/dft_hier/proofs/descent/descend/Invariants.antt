use Rattle.dft_hier.specs.Walking.{IsWalkedTo}
use Rattle.dft_hier.proofs.descent.descend.Given as goal

abbrev pub invariant-loop-number : goal.invariant-loop-number
invariant-loop-number l = IsWalkedTo l.children l.number l.descent
