-- The lock-ups so far, and those of the rest.
use Rattle.std.proofs.Common.{◌≡◌, ◌-◌, ◌++◌, length}
use Rattle.std.specs.List.{filter_map, range_with_len}
use Rattle.dft_stitch.specs.Chains.{lockup_after}
use Rattle.dft_stitch.proofs.lockups.add_lockups.Given as goal

abbrev pub invariant-loop-place : goal.invariant-loop-place
invariant-loop-place l =
    l.lockups.items ++ filter_map (lockup_after l.verdicts l.fn.chain l.cells) (range_with_len l.place (length l.cells - l.place))
    ≡ l.fn.lockups.items ++ filter_map (lockup_after l.verdicts l.fn.chain l.cells) (range_with_len 0 (length l.cells))
