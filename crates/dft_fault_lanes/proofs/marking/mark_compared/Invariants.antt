-- The nets of the signals before this one are marked that are compared.
use Rattle.dft_fault_lanes.proofs.MarkLemmas.{Covering}
use Rattle.dft_fault_lanes.proofs.marking.mark_compared.Given as goal

abbrev pub invariant-loop-signal : goal.invariant-loop-signal
invariant-loop-signal l = Covering l.nets l.acts l.fn.marked l.marked l.signal
