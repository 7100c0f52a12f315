-- The responses so far.
use Rattle.dft_expect.proofs.MovingLemmas.{AreRisenIn}
use Rattle.dft_expect.proofs.moving.risen_wide.Given as goal

abbrev pub invariant-loop-place : goal.invariant-loop-place
invariant-loop-place l = AreRisenIn l.risen l.number l.inverted l.place l.wide
