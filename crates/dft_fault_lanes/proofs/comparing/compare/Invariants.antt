-- The bits of the signals before this one are compared.
use Rattle.dft_netlist.specs.Orders.{numbers_of}
use Rattle.dft_fault_lanes.proofs.SignalLemmas.{SoFar}
use Rattle.dft_fault_lanes.proofs.comparing.compare.Given as goal

abbrev pub invariant-loop-signal : goal.invariant-loop-signal
invariant-loop-signal l = SoFar l.wides l.vector (numbers_of l.nets) l.acts l.fn.live l.fn.found l.live l.found l.signal
