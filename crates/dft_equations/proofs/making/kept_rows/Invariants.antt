-- The rows of the places so far.
use Rattle.dft_equations.specs.ChainRows.{AreMoved}
use Rattle.dft_equations.proofs.making.kept_rows.Given as goal

abbrev pub invariant-loop-place : goal.invariant-loop-place
invariant-loop-place l = AreMoved l.first l.channels l.more l.place l.kept.items
