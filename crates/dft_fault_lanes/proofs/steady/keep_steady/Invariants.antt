-- The cells before this one read what is still in each live lane.
use Rattle.dft_fault_lanes.proofs.SteadyLemmas.{Steady}
use Rattle.dft_fault_lanes.proofs.steady.keep_steady.Given as goal

abbrev pub invariant-loop-flop : goal.invariant-loop-flop
invariant-loop-flop l = Steady l.flops l.rising l.pulsed l.shown l.wides l.fn.live l.live l.flop-index
