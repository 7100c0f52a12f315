-- The patterns so far.
use Rattle.dft_expect.proofs.SourceLemmas.{AreCells}
use Rattle.dft_expect.proofs.sources.cell_wide.Given as goal

abbrev pub invariant-loop-place : goal.invariant-loop-place
invariant-loop-place l = AreCells l.patterns l.number l.inverted l.place l.wide
