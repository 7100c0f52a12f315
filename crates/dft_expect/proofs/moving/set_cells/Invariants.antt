-- The nets so far.
use Rattle.dft_expect.proofs.MovingLemmas.{AreCellsSet}
use Rattle.dft_expect.proofs.moving.set_cells.Given as goal

abbrev pub invariant-loop-net : goal.invariant-loop-net
invariant-loop-net l = AreCellsSet l.settings l.risen l.net l.initial.evaluator l.evaluator
