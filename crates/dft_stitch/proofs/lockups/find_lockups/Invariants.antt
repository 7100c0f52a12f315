-- The lock-ups of the chains so far, and those of the rest.
use Rattle.std.proofs.Common.{◌≡◌, ◌-◌, ◌++◌, length, flat_map}
use Rattle.std.specs.List.{range_with_len}
use Rattle.dft_stitch.specs.Chains.{lockups_in, lockups_of}
use Rattle.dft_stitch.proofs.lockups.find_lockups.Given as goal

abbrev pub invariant-loop-chain : goal.invariant-loop-chain
invariant-loop-chain l = l.lockups.items ++ flat_map (lockups_in l.verdicts l.chains) (range_with_len l.chain (length l.chains - l.chain)) ≡ lockups_of l.verdicts l.chains
