-- The chains so far.
use Rattle.std.proofs.Common.{◌≡◌, map}
use Rattle.std.specs.List.{range_with_len}
use Rattle.dft_config.specs.Range.{has, same_number}
use Rattle.dft_encode.proofs.settings.always_masked.Given as goal

abbrev pub invariant-loop-chain : goal.invariant-loop-chain
invariant-loop-chain l = l.always.items ≡ map (has same_number l.config.always_masked) (range_with_len 0 l.chain)
