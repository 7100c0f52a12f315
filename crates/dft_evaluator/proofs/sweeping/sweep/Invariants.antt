-- The nets before this one are settled.
use Rattle.dft_evaluator.proofs.SweepLemmas.{Sweeping}
use Rattle.dft_evaluator.proofs.sweeping.sweep.Given as goal

abbrev pub invariant-loop-net : goal.invariant-loop-net
invariant-loop-net l = Sweeping l.circuit.ops l.fn.wides l.circuit.order l.wides l.net-index
