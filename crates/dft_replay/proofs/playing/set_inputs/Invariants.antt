use Rattle.dft_netlist.specs.Orders.{numbers_of}
use Rattle.dft_replay.proofs.VectorLemmas.{Told}
use Rattle.dft_replay.proofs.playing.set_inputs.Given as goal

abbrev pub invariant-loop-signal : goal.invariant-loop-signal
invariant-loop-signal l = Told l.fn.machine l.machine (numbers_of l.nets) l.acts l.signal
