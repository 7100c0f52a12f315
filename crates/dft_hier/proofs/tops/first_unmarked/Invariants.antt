-- One of those that are left is not marked.
use Rattle.std.proofs.Common.{◌≡◌, not, drop}
use Rattle.std.specs.List.{count_by}
use Rattle.dft_hier.proofs.tops.first_unmarked.Given as goal

abbrev pub invariant-loop-number : goal.invariant-loop-number
invariant-loop-number l = count_by not (drop l.number l.marks) ≡ 1
