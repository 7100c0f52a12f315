-- The nets so far.
use Rattle.dft_expect.specs.Sources.{IsSame}
use Rattle.dft_expect.proofs.SourceLemmas.{AreSet}
use Rattle.dft_expect.proofs.sources.set_all.Given as goal

abbrev pub invariant-loop-net : goal.invariant-loop-net
invariant-loop-net l = record {
  same : IsSame l.initial.evaluator l.evaluator;
  set : AreSet l.settings l.patterns l.net l.evaluator;
}
