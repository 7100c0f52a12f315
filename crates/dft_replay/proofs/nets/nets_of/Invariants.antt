use Rattle.std.proofs.Common.{◌≡◌, take, drop, length}
use Rattle.dft_netlist.specs.Orders.{numbers_of}
use Rattle.dft_cycle.specs.Machine.{AreNets}
use Rattle.dft_replay.specs.Fits.{first_misfit}
use Rattle.dft_replay.specs.Rows as rows
use Rattle.dft_replay.proofs.nets.nets_of.Given as goal

abbrev pub invariant-loop-signal : goal.invariant-loop-signal
invariant-loop-signal l = record {
  nets : numbers_of l.nets.items ≡ rows.nets_of l.design (take l.signal-index l.signals);
  live : AreNets (length l.design.nets) l.nets.items;
  fit : first_misfit l.design l.signals ≡ first_misfit l.design (drop l.signal-index l.signals);
}
