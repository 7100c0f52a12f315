-- The cells of the chains so far, with those of the others.
use Rattle.std.proofs.Common.{◌≡◌, ◌++◌, drop}
use Rattle.dft_expect.specs.Loaded.{all_cells}
use Rattle.dft_seek.proofs.tables.cells.Given as goal

abbrev pub invariant-loop-chain : goal.invariant-loop-chain
invariant-loop-chain l = l.cells.items ++ all_cells (drop l.chain l.chains.chains) ≡ all_cells l.chains.chains
