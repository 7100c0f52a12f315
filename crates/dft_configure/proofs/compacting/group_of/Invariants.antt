-- The chains so far.
use Rattle.std.proofs.Common.{◌≡◌, filter}
use Rattle.std.specs.List.{range_with_len}
use Rattle.dft_configure.specs.Compacting.{is_of}
use Rattle.dft_configure.proofs.compacting.group_of.Given as goal

abbrev pub invariant-loop-chain : goal.invariant-loop-chain
invariant-loop-chain l = l.group.items ≡ filter (is_of l.outputs l.output) (range_with_len 0 l.chain)
