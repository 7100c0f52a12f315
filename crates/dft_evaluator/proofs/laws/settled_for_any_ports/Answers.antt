-- Ports only say which source a net is.
use Rattle.dft_evaluator.proofs.EvaluatorLemmas.{any_ports}
use Rattle.dft_evaluator.proofs.laws.settled_for_any_ports.Goals as goal

pub returns : goal.returns
returns c = any_ports
