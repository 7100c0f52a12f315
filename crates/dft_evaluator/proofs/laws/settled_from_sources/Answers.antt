-- At a source the two give the same.
use Rattle.dft_evaluator.proofs.EvaluatorLemmas.{from_sources}
use Rattle.dft_evaluator.proofs.laws.settled_from_sources.Goals as goal

pub returns : goal.returns
returns c = from_sources
