-- The signals from this one on set their ports.
use Rattle.dft_netlist.specs.Orders.{numbers_of}
use Rattle.dft_fault_lanes.proofs.InputLemmas.{SetFrom}
use Rattle.dft_fault_lanes.proofs.vectors.set_inputs.Given as goal

abbrev pub invariant-loop-signal : goal.invariant-loop-signal
invariant-loop-signal l = SetFrom (numbers_of l.nets) l.acts l.fn.ports l.ports l.signal
