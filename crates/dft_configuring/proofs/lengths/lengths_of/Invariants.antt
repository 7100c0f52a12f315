-- The numbers of cells of the chains before this one.
use Rattle.std.proofs.Common.{◌≡◌, length, map, take}
use Rattle.dft_configuring.proofs.lengths.lengths_of.Given as goal

abbrev pub invariant-loop-chain : goal.invariant-loop-chain
invariant-loop-chain l = l.lengths.items ≡ map length (take l.chain l.chains.chains)
