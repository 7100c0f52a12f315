-- The cells of the chains so far.
use Rattle.std.proofs.Common.{take}
use Rattle.dft_expect.specs.Loaded.{all_cells}
use Rattle.dft_expect.specs.Reads.{AreReads}
use Rattle.dft_expect.proofs.reads.reads.Given as goal

abbrev pub invariant-loop-chain : goal.invariant-loop-chain
invariant-loop-chain l = AreReads l.design (all_cells (take l.chain l.chains.chains)) l.reads.items
