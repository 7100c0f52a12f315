-- The chains so far, and those of the rest of the cells.
use Rattle.dft_stitch.proofs.BlockLemmas.{IsCut}
use Rattle.dft_stitch.proofs.cutting.cut.Given as goal

abbrev pub invariant-loop-chain : goal.invariant-loop-chain
invariant-loop-chain l = IsCut l.cells l.fn.count l.chains.items l.chain l.start
