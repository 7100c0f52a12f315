-- The signals from this one on flag their clocks.
use Rattle.std.proofs.Common.{length}
use Rattle.dft_netlist.specs.Orders.{numbers_of}
use Rattle.dft_fault_lanes.proofs.InputLemmas.{FlaggedFrom}
use Rattle.dft_fault_lanes.proofs.vectors.flag_pulses.Given as goal

abbrev pub invariant-loop-signal : goal.invariant-loop-signal
invariant-loop-signal l = FlaggedFrom (numbers_of l.nets) l.acts (length l.fn.pulsed) l.pulsed l.signal
