-- The groups so far.
use Rattle.std.proofs.Common.{◌≡◌, map}
use Rattle.std.specs.List.{range_with_len}
use Rattle.dft_configure.specs.Compacting.{group_of}
use Rattle.dft_configure.proofs.compacting.groups_of.Given as goal

abbrev pub invariant-loop-output : goal.invariant-loop-output
invariant-loop-output l = l.groups.items ≡ map (group_of l.chains l.outputs) (range_with_len 0 l.output)
