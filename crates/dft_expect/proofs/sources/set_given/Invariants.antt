-- The patterns so far.
use Rattle.dft_expect.proofs.SourceLemmas.{AreGivenTo}
use Rattle.dft_expect.proofs.sources.set_given.Given as goal

abbrev pub invariant-loop-place : goal.invariant-loop-place
invariant-loop-place l = AreGivenTo l.settings l.patterns l.place l.initial.evaluator l.evaluator
